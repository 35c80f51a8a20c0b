use Rattle.std.proofs.Common.{◌≡◌, ℕ, ◌+◌, List}
use Rattle.objects.specs.declared.op.Slot.{Slot}
use Rattle.objects.specs.semantics.Step.{Did, without}
use Rattle.machine.proofs.stack.Stack.drop_slots.Given as goal

-- what is left to drop
abbrev pub invariant-loop : goal.invariant-loop
invariant-loop l = (n : ℕ) → n + l.counter ≡ l.count → (k : List Slot → Did) → without n l.self k ≡ without l.count l.initial.self k
