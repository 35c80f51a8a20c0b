use Rattle.std.proofs.lemmas.Result.{err_from_is_err_and}
use Rattle.script.specs.Seen.{seen}
use Rattle.script.specs.Script.{call_in}
use Rattle.script.proofs.Each.{next, fails}
use Rattle.script.proofs.calls.Methods.lane_at.Goals as goal

pub returns-in_err-call_of : goal.returns-in_err-call_of
returns-in_err-call_of c =
    let p = err_from_is_err_and c.from_residual.result c.from_residual.ensures.1 in
    rw (p.1, p.2) (fails (call_in c.args.self.now.classes c.args.self.now.program c.args.path.now) seen c.args.values.now c.loop-index.index c.index-values-index.result c.in_err-call_of.field-0.0 c.loop-index.calls.items _
    c.loop-index-test.true c.index-values-index.is c.in_err-call_of.ensures c.loop-index.invariant)

pub loop-index-preserved : goal.loop-index-preserved
loop-index-preserved c =
    next (call_in c.args.self.now.classes c.args.self.now.program c.args.path.now) seen c.args.values.now c.loop-index.index c.index-values-index.result c.loop-index.calls.items c.push.new.self.items c.in_ok-call_of.field-0 _
    c.loop-index-test.true c.index-values-index.is c.in_ok-call_of.ensures c.in_ok-push.ensures.items c.loop-index.invariant
