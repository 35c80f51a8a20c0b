use Rattle.std.proofs.Common.{[], ◌∷◌}
use Rattle.std.proofs.lemmas.Result.{err_from_is_err_and}
use Rattle.objects.specs.rewriting.Attempt.{On}
use Rattle.machine.specs.Machine.{bounds_of}
use Rattle.machine.specs.Running.{at, phase_of, meter}
use Rattle.objects.specs.rewriting.Events.{Grows}
use Rattle.machine.proofs.Ways.{grows_same}
use Rattle.machine.proofs.Turning.{settle_fails, turned_from, waits_step, step_is}
use Rattle.machine.proofs.running.Running.end_turn.Goals as goal

pub returns-in_err-asking-clause-run : goal.returns-in_err-asking-clause-run
returns-in_err-asking-clause-run g c = λ h n r w k used x s a plain.
    let p = err_from_is_err_and c.from_residual.result c.from_residual.ensures.1 in
    rw (p.1, p.2) (settle_fails c.args.program.now (bounds_of c.args.limits) a c.args.self.now _ c.args.doing (c.settle.new.frame ∷ c.settle.new.callers) _ _ c.in_err-asking.field-0.0 w r
    plain c.in_err-asking.ensures.step (grows_same (g.G.Gate.told c.args.gate.now)) s)

pub returns-clause-run : goal.returns-clause-run
returns-clause-run g c = λ h n r w k used x s a plain.
    let P = c.args.program.now in
    let B = bounds_of c.args.limits in
    let b = record c.args.self.now { frame = c.settle.new.frame; callers = c.settle.new.callers } in
    turned_from P B (at a w r) (On (phase_of c.args.self.now.stage) (plain.frame ∷ c.args.self.now.callers) (meter c.args.self.now) w r) [] (Grows (g.G.Gate.told c.args.gate.now) (g.G.Gate.told c.follow.new.gate)) _ _ _ _ (plain.comes B w r) tt (λ es t. t)
    (c.follow.ensures.run h n r w k used x s _
    (waits_step P B b (plain.frame ∷ c.args.self.now.callers) c.in_ok-asking.asking w r (step_is (c.settle.new.frame ∷ c.settle.new.callers) c.in_ok-asking.asking _ _ (plain.does c.args.self.now.callers) c.in_ok-asking.ensures.step)))
