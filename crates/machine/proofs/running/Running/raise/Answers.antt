use Rattle.std.proofs.Common.{[], refl}
use Rattle.objects.specs.rewriting.Attempt.{Gives}
use Rattle.machine.proofs.Ways.{grows_same}
use Rattle.machine.proofs.Turning.{turn_of}
use Rattle.machine.proofs.running.Running.raise.Goals as goal

pub returns-in-Open-clause-run : goal.returns-in-Open-clause-run
returns-in-Open-clause-run g c = λ h n r w k used a s B.
    rw c.in-Open.is (c.raise_by_type.ensures.run h n r w k used a (rw c.in-Open.is at s) B)

pub returns-in-Doomed-clause-run : goal.returns-in-Doomed-clause-run
returns-in-Doomed-clause-run g c = λ h n r w k used a s B.
    rw c.in-Doomed.is (turn_of B _ _ _ _ _ _ r w (Gives 0) (rw (c.doom.ensures.stage, c.doom.ensures.tried) (rw c.in-Doomed.is at s)) (c.doom.ensures.run B r w) ([], refl, tt, grows_same (g.G.Gate.told c.args.gate.now)))

pub returns-in-Ready-clause-run : goal.returns-in-Ready-clause-run
returns-in-Ready-clause-run g c = λ h n r w k used a s B. (r, w, s, (Gives 0, rw c.in-Ready.is refl, ([], rw c.in-Ready.is refl, tt, grows_same (g.G.Gate.told c.args.gate.now))))
