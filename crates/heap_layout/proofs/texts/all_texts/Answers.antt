use Rattle.std.proofs.lemmas.Result.{IfOk-from_err}
use Rattle.heap_layout.proofs.texts.all_texts.Goals as goal

pub returns-in_err-push_texts : goal.returns-in_err-push_texts
returns-in_err-push_texts c = IfOk-from_err _ _ c.from_residual.ensures.0
