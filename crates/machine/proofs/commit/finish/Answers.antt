use Rattle.std.proofs.Common.{◌∷◌}
use Rattle.std.proofs.lemmas.Result.{err_from_is_err_and}
use Rattle.objects.specs.declared.op.Asking.TheVariants.{Go, Return, Throw}
use Rattle.machine.proofs.Comes.{closed_step, closed_stuck}
use Rattle.machine.proofs.Finishing.{closed_on, finish_fails, finish_from}
use Rattle.machine.proofs.commit.finish.Goals as goal

pub returns-in_err-step : goal.returns-in_err-step
returns-in_err-step c = λ B m w r is.
    let p = err_from_is_err_and c.from_residual.result c.from_residual.ensures.1 in
    rw (p.1, p.2) (finish_fails c.args.program.now B _ (c.loop.frame ∷ c.loop.callers) (c.step.new.frame ∷ c.step.new.callers) m w r _ (c.loop.invariant B m w r) c.in_err-step.ensures.step)

pub returns-in-Return : goal.returns-in-Return
returns-in-Return c = λ B m w r is. (
  closed_on _ _ _ _ (c.loop.frame ∷ c.loop.callers) m w r (c.loop.invariant B m w r)
      (closed_step c.args.program.now B (c.loop.frame ∷ c.loop.callers) (c.step.new.frame ∷ c.step.new.callers) m w r (Return c.in-Return.value) (rw c.in-Return.is at c.in_ok-step.ensures.step)),
  tt,
)

pub returns-in-Throw : goal.returns-in-Throw
returns-in-Throw c = λ B m w r is.
    finish_from c.args.program.now B _ _ m w r c.threw.result
    (closed_on _ _ _ _ (c.loop.frame ∷ c.loop.callers) m w r (c.loop.invariant B m w r)
    (closed_step c.args.program.now B (c.loop.frame ∷ c.loop.callers) (c.step.new.frame ∷ c.step.new.callers) m w r (Throw c.in-Throw.exception) (rw c.in-Throw.is at c.in_ok-step.ensures.step)))
    (c.threw.ensures B m w r is)

pub returns-in-Turn : goal.returns-in-Turn
returns-in-Turn c = λ B m w r is.
    closed_on _ _ _ _ (c.loop.frame ∷ c.loop.callers) m w r (c.loop.invariant B m w r)
    (closed_stuck c.args.program.now B (c.loop.frame ∷ c.loop.callers) (c.step.new.frame ∷ c.step.new.callers) m w r c.in_ok-step.field-0 c.in-Turn.is c.in_ok-step.ensures.step)

pub loop-preserved : goal.loop-preserved
loop-preserved c = λ B m w r.
    closed_on _ _ _ _ (c.loop.frame ∷ c.loop.callers) m w r (c.loop.invariant B m w r)
    (closed_step c.args.program.now B (c.loop.frame ∷ c.loop.callers) (c.step.new.frame ∷ c.step.new.callers) m w r Go (rw c.in-Go.is at c.in_ok-step.ensures.step))
