use Rattle.std.proofs.lemmas.Result.{IfOk-from_err}
use Rattle.heap_layout.proofs.interfaces.listed_at.Goals as goal

pub returns-in_err-push_interfaces : goal.returns-in_err-push_interfaces
returns-in_err-push_interfaces c = IfOk-from_err _ _ c.from_residual.ensures.0
