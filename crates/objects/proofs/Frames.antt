-- Frames by their parts, and results of methods.
use Rattle.std.proofs.Common.{ℕ, List}
use Rattle.objects.specs.declared.op.Slot.{Slot}
use Rattle.objects.specs.semantics.Step.{Frame}

abbrev pub frame : ℕ → ℕ → List Slot → List Slot → Frame
frame m pc l s = record { method = m; pc = pc; locals = l; stack = s }
