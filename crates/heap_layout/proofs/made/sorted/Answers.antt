use Rattle.std.proofs.lemmas.Result.{IfOk-from_err}
use Rattle.heap_layout.proofs.made.sorted.Goals as goal

pub returns-in_err-push : goal.returns-in_err-push
returns-in_err-push c = IfOk-from_err _ _ c.from_residual.ensures.0

pub returns-in_err-ordered : goal.returns-in_err-ordered
returns-in_err-ordered c = IfOk-from_err _ _ c.from_residual-in_err-ordered.ensures.0

pub returns-in_err-copies : goal.returns-in_err-copies
returns-in_err-copies c = IfOk-from_err _ _ c.from_residual-in_err-copies.ensures.0
