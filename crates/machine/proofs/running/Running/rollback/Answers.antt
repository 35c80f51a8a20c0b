use Rattle.std.proofs.Common.{[], arith, refl, inr}
use Rattle.objects.specs.rewriting.Attempt.{Gives}
use Rattle.machine.specs.Running.{Saw}
use Rattle.machine.proofs.Ways.{grows_same}
use Rattle.machine.proofs.Knowing.{knew_doomed, saw_none}
use Rattle.machine.proofs.running.Running.rollback.Goals as goal

pub returns-clause-run : goal.returns-clause-run
returns-clause-run g c = λ h n r w k used a s P told.
    let t = s.tries in
    let seen = saw_none g.E.Engine.is_shared g.E.Engine.begins g.E.Engine.allows h k used r (knew_doomed (Saw g.E.Engine.is_shared g.E.Engine.begins g.E.Engine.allows h k used) c.args.self.now.tried r s.knew) in
    rw (c.advance.ensures, c.set_back.ensures) ([], [], record { conflicts = s.conflicts; later = s.later; stands = c.rollback.ensures.run h s.conflicts r w s.stands; tries = omega arith; idle = (refl, refl); knew = inr seen }, (Gives 0, refl, ([], refl, tt, grows_same told)))
