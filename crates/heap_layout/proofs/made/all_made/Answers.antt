use Rattle.std.proofs.lemmas.Result.{IfOk-from_err}
use Rattle.heap_layout.proofs.made.all_made.Goals as goal

pub returns-in_err-push_made_by : goal.returns-in_err-push_made_by
returns-in_err-push_made_by c = IfOk-from_err _ _ c.from_residual.ensures.0
