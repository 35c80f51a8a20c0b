use Rattle.std.proofs.Common.{sym}
use Rattle.std.proofs.lemmas.List.{append-nil}
use Rattle.std.proofs.lemmas.Result.{IfOk-from_err}
use Rattle.heap_layout.proofs.rows.push_primitive_rows.Goals as goal

pub loop-name-init : goal.loop-name-init
loop-name-init c = sym (append-nil c.args.rows.now.items)

pub returns-in_err-array_row : goal.returns-in_err-array_row
returns-in_err-array_row c = IfOk-from_err _ _ c.from_residual.ensures.0

pub returns-in_err-push : goal.returns-in_err-push
returns-in_err-push c = IfOk-from_err _ _ c.from_residual-in_err-push.ensures.0
