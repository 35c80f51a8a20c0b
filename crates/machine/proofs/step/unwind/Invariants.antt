use Rattle.std.proofs.Common.{◌≡◌, ◌∷◌, length}
use Rattle.objects.specs.semantics.Step.{unwinds}
use Rattle.machine.proofs.step.unwind.Given as goal

abbrev pub invariant-loop-at : goal.invariant-loop-at
invariant-loop-at l = unwinds l.program l.exception l.of (l.frame ∷ l.callers) ≡ unwinds l.program l.exception l.of (l.initial.frame ∷ l.initial.callers)

abbrev pub decreases-loop-at : goal.decreases-loop-at
decreases-loop-at l = length l.callers
