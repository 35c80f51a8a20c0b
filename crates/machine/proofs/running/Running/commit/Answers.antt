use Rattle.std.proofs.Common.{◌+◌, refl, inr, arith}
use Rattle.std.proofs.lemmas.Result.{err_from_is_err_and}
use Rattle.objects.specs.rewriting.Attempt.{on_commit}
use Rattle.machine.specs.Machine.{bounds_of}
use Rattle.machine.specs.Running.{frames, meter, Saw}
use Rattle.machine.proofs.Finishing.{commit_fails}
use Rattle.machine.proofs.Knowing.{knew_open, saw_none}
use Rattle.machine.proofs.running.Running.commit.Goals as goal

pub returns-in_err-answer-clause-run : goal.returns-in_err-answer-clause-run
returns-in_err-answer-clause-run g c = λ h n r w k used s.
    let p = err_from_is_err_and c.from_residual.result c.from_residual.ensures.1 in
    let B = bounds_of c.args.limits in
    rw (p.1, p.2) (commit_fails c.args.program.now B (λ v. on_commit B v (frames c.args.self.now) (meter c.args.self.now) w r) (g.E.Engine.awaits c.args.engine.now) g.E.Engine.allows (Saw g.E.Engine.is_shared g.E.Engine.begins g.E.Engine.allows h k used) (g.E.Engine.stands c.args.engine.now) h n r w c.answer_committed.new.self
    (meter c.args.self.now) c.in_err-answer.field-0.0 (c.in_err-answer.ensures.answer B w r) (rw (c.in_err-answer.ensures.same, c.requires.open) s))

pub commit-requires-clause-allowed : goal.commit-requires-clause-allowed
commit-requires-clause-allowed g c = λ shared.
    let m = c.requires.allowed shared in
    let B = bounds_of c.args.limits in
    let f = c.in_ok-answer.ensures.answer B m.writes m.reads in
    rw (c.of.ensures, c.of-2.ensures, c.in_ok-answer.ensures.same) (record {
      history = m.history;
      conflicts = m.conflicts;
      reads = m.reads;
      writes = m.writes;
      call = m.call;
      used = B.used;
      stands = m.stands;
      awaits = m.awaits;
      allowed = m.allowed c.in_ok-answer.answer f.1 (f.0.0, f.0.1);
    })

pub returns-in-Ok-clause-run : goal.returns-in-Ok-clause-run
returns-in-Ok-clause-run g c = λ h n r w k used s.
    let u = rw (c.of.ensures, c.of-2.ensures) at (c.in-Ok.ensures.run h s.conflicts r w s.stands) in
    let f = c.in_ok-answer.ensures.answer (bounds_of c.args.limits) w r in
    rw c.in_ok-answer.ensures.same ((f.0, f.1, refl), record { conflicts = s.conflicts; later = s.later; tries = s.tries; stamped = u.0; adds = λ j a may. rw c.in_ok-answer.ensures.same at (u.1 j c.args.limits.room.used a (rw c.in_ok-answer.ensures.same may)) })

pub returns-in-Err-Conflict-clause-run : goal.returns-in-Err-Conflict-clause-run
returns-in-Err-Conflict-clause-run g c = λ h n r w k used s.
    let seen = saw_none g.E.Engine.is_shared g.E.Engine.begins g.E.Engine.allows h k used r (knew_open (Saw g.E.Engine.is_shared g.E.Engine.begins g.E.Engine.allows h k used) c.args.self.now.tried r s.knew) in
    let t = s.tries in
    let l = s.later in
    let st = (rw c.in-Err-Conflict.field-0-is at c.in-Err-Conflict.ensures.run) h s.conflicts r w s.stands in
    rw (c.in_ok-resume-in-Err-Conflict.ensures, c.set_back.ensures, c.in_ok-answer.ensures.same) (refl, record { conflicts = s.conflicts + 1; later = omega arith; stands = st; tries = omega arith; idle = (refl, refl); knew = inr seen })
