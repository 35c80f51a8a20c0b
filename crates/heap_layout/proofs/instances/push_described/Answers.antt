use Rattle.std.proofs.lemmas.Result.{IfOk-from_err}
use Rattle.heap_layout.proofs.instances.push_described.Goals as goal

pub returns-in_err-descriptor : goal.returns-in_err-descriptor
returns-in_err-descriptor c = IfOk-from_err _ _ c.from_residual.ensures.0

pub returns-in_err-joined : goal.returns-in_err-joined
returns-in_err-joined c = IfOk-from_err _ _ c.from_residual-in_err-joined.ensures.0

pub returns-in_err-push : goal.returns-in_err-push
returns-in_err-push c = IfOk-from_err _ _ c.from_residual-in_err-push.ensures.0
