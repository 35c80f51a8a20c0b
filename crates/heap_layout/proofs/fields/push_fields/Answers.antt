use Rattle.std.proofs.lemmas.Result.{IfOk-from_err}
use Rattle.heap_layout.proofs.fields.push_fields.Goals as goal

pub returns-in_err-push_field : goal.returns-in_err-push_field
returns-in_err-push_field c = IfOk-from_err _ _ c.from_residual.ensures.0

pub returns-in_err-push_field-2 : goal.returns-in_err-push_field-2
returns-in_err-push_field-2 c = IfOk-from_err _ _ c.from_residual-in_err-push_field-2.ensures.0

pub returns-in_err-statics : goal.returns-in_err-statics
returns-in_err-statics c = IfOk-from_err _ _ c.from_residual-in_err-statics.ensures.0

pub returns-in_err-words : goal.returns-in_err-words
returns-in_err-words c = IfOk-from_err _ _ c.from_residual-in_err-words.ensures.0
