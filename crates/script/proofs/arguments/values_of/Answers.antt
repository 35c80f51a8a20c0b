use Rattle.std.proofs.lemmas.Result.{err_from_is_err_and}
use Rattle.script.specs.Seen.{seen}
use Rattle.script.specs.Script.{value_in}
use Rattle.script.proofs.Each.{next, fails}
use Rattle.script.proofs.arguments.values_of.Goals as goal

pub returns-in_err-argument_at : goal.returns-in_err-argument_at
returns-in_err-argument_at c =
    let p = err_from_is_err_and c.from_residual.result c.from_residual.ensures.1 in
    rw (p.1, p.2) (fails (value_in c.args.parameters.now c.args.path.now) seen c.args.values.now c.loop-index.index c.index-values-index.result c.in_err-argument_at.field-0.0 c.loop-index.arguments.items _
    c.loop-index-test.true c.index-values-index.is c.in_err-argument_at.ensures c.loop-index.invariant)

pub loop-index-preserved : goal.loop-index-preserved
loop-index-preserved c =
    next (value_in c.args.parameters.now c.args.path.now) seen c.args.values.now c.loop-index.index c.index-values-index.result c.loop-index.arguments.items c.push.new.self.items c.in_ok-argument_at.field-0 _
    c.loop-index-test.true c.index-values-index.is c.in_ok-argument_at.ensures c.in_ok-push.ensures.items c.loop-index.invariant
