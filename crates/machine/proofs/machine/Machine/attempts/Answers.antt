use Rattle.std.proofs.Common.{Ok, Err}
use Rattle.std.proofs.lemmas.Result.{err_from_is_err_and}
use Rattle.machine.specs.Machine.{bounds_of, Begins}
use Rattle.objects.specs.rewriting.Attempt.{run_start}
use Rattle.objects.specs.rewriting.Events.{Grows}
use Rattle.machine.proofs.Ways.{grows_same}
use Rattle.machine.specs.Running.{Saw, Leaves}
use Rattle.machine.proofs.Ends.{start_fails, end_left, end_from}
use Rattle.machine.proofs.machine.Machine.attempts.Goals as goal

pub returns-in_err-running-clause-run : goal.returns-in_err-running-clause-run
returns-in_err-running-clause-run g c = λ h n kc s aw.
    let p = err_from_is_err_and c.from_residual.result c.from_residual.ensures.1 in
    rw (p.1, p.2) (start_fails c.args.program.now (bounds_of c.args.limits) c.args.called.method c.args.called.args.now (g.E.Engine.awaits c.args.tx.now) g.E.Engine.allows (Begins (g.E.Engine.attempts c.args.tx.now) (g.E.Engine.attempts c.args.tx.now)) (Grows (g.G.Gate.told c.args.gate.now) (g.G.Gate.told c.args.gate.now)) (g.E.Engine.stands c.args.tx.now) h n (Saw g.E.Engine.is_shared g.E.Engine.begins g.E.Engine.allows h kc c.args.limits.room.used) c.in_err-running.field-0.0 (grows_same (g.G.Gate.told c.args.gate.now)) c.in_err-running.ensures s)

pub run-requires-clause-stage : goal.run-requires-clause-stage
run-requires-clause-stage g c = c.in_ok-running.ensures.1

pub run-requires-clause-tried : goal.run-requires-clause-tried
run-requires-clause-tried g c = c.in_ok-running.ensures.2

pub returns-in-Ok-clause-run : goal.returns-in-Ok-clause-run
returns-in-Ok-clause-run g c = λ h n kc s aw.
    end_from c.args.program.now (bounds_of c.args.limits) _ _ (g.E.Engine.awaits c.args.tx.now) g.E.Engine.allows (Begins (g.E.Engine.attempts c.args.tx.now) (g.E.Engine.attempts c.run.new.tx)) (Grows (g.G.Gate.told c.args.gate.now) (g.G.Gate.told c.run.new.gate)) (g.E.Engine.stands c.run.new.tx) h n
    (Leaves (g.E.Engine.stands c.run.new.tx h) n c.run.new.self.stage) (Saw g.E.Engine.is_shared g.E.Engine.begins g.E.Engine.allows h kc c.args.limits.room.used) (Ok c.in-Ok.end) c.in_ok-running.ensures.0 (c.in-Ok.ensures.run h n kc s aw)

pub returns-in-Err-clause-run : goal.returns-in-Err-clause-run
returns-in-Err-clause-run g c = λ h n kc s aw.
    end_left c.args.program.now (bounds_of c.args.limits) (run_start c.args.program.now (bounds_of c.args.limits) c.args.called.method c.args.called.args.now) (g.E.Engine.awaits c.args.tx.now) g.E.Engine.allows (Begins (g.E.Engine.attempts c.args.tx.now) (g.E.Engine.attempts c.run.new.tx)) (Begins (g.E.Engine.attempts c.args.tx.now) (g.E.Engine.attempts c.leave.new.tx)) (Grows (g.G.Gate.told c.args.gate.now) (g.G.Gate.told c.run.new.gate)) (g.E.Engine.stands c.run.new.tx) (g.E.Engine.stands c.leave.new.tx) h n (Saw g.E.Engine.is_shared g.E.Engine.begins g.E.Engine.allows h kc c.args.limits.room.used) c.run.new.self.stage c.in-Err.failure (c.leave.ensures.run h n)
    (end_from c.args.program.now (bounds_of c.args.limits) _ _ (g.E.Engine.awaits c.args.tx.now) g.E.Engine.allows (Begins (g.E.Engine.attempts c.args.tx.now) (g.E.Engine.attempts c.run.new.tx)) (Grows (g.G.Gate.told c.args.gate.now) (g.G.Gate.told c.run.new.gate)) (g.E.Engine.stands c.run.new.tx) h n
    (Leaves (g.E.Engine.stands c.run.new.tx h) n c.run.new.self.stage) (Saw g.E.Engine.is_shared g.E.Engine.begins g.E.Engine.allows h kc c.args.limits.room.used) (Err c.in-Err.failure) c.in_ok-running.ensures.0 (c.in-Err.ensures.run h n kc s aw))

pub run-requires-clause-ready : goal.run-requires-clause-ready
run-requires-clause-ready g c = λ shared.
    let m = c.requires.ready shared in
    record {
      history = m.history;
      conflicts = m.conflicts;
      call = m.call;
      stands = m.stands;
      awaits = m.awaits;
      allowed = λ x meter r w other comes. m.allowed x meter r w other (rw c.in_ok-running.ensures.0 comes);
    }
