use Rattle.std.proofs.Common.{[], ◌∷◌}
use Rattle.objects.specs.declared.op.Phase.TheVariants.{Closed}
use Rattle.objects.specs.rewriting.Attempt.{Log, Bounds, Meter, On}
use Rattle.machine.specs.Running.{Way}
use Rattle.machine.proofs.commit.finish.Given as goal

abbrev pub invariant-loop : goal.invariant-loop
invariant-loop l = (B : Bounds) (m : Meter) (w r : Log)
    → Way l.program B (On Closed (l.initial.frame ∷ l.initial.callers) m w r) [] (On Closed (l.frame ∷ l.callers) m w r)
