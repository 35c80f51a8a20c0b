use Rattle.std.proofs.Common.{◌≡◌, sym, ◌∙◌, Some}
use Rattle.objects.specs.semantics.Step.{catch_at}
use Rattle.machine.proofs.step.unwind.Goals as goal

pub returns-in-Some-clause-step : goal.returns-in-Some-clause-step
returns-in-Some-clause-step c =
    let h = rw c.in_ok-enter_handler.ensures at (c.jump.ensures.step c.loop-at.callers) in
    let e : catch_at c.args.program.now c.loop-at.frame.method c.loop-at.frame.pc c.args.of ≡ Some c.in-Some.at = rw (← c.frame.view_is) (sym c.catch.ensures ∙ c.in-Some.is) in
    rw (← c.loop-at.invariant, e) h
