use Rattle.std.proofs.lemmas.Result.{IfOk-from_err}
use Rattle.hierarchy.proofs.marks.mark_fault.Goals as goal

pub returns-in_err-misplaced-in-Ok-Some : goal.returns-in_err-misplaced-in-Ok-Some
returns-in_err-misplaced-in-Ok-Some c = IfOk-from_err _ _ c.from_residual.ensures.0

pub returns-in_err-name-in-Err-Bad : goal.returns-in_err-name-in-Err-Bad
returns-in_err-name-in-Err-Bad c = IfOk-from_err _ _ c.from_residual-in_err-name-in-Err-Bad.ensures.0

pub returns-in_err-name-in-Err-Retries : goal.returns-in_err-name-in-Err-Retries
returns-in_err-name-in-Err-Retries c = IfOk-from_err _ _ c.from_residual-in_err-name-in-Err-Retries.ensures.0
