use Rattle.std.proofs.lemmas.Result.{err_from_is_err_and}
use Rattle.script.proofs.Told.{first_fails}
use Rattle.script.proofs.reading.script_from.Goals as goal

pub returns-in_err-lists : goal.returns-in_err-lists
returns-in_err-lists c =
    let p = err_from_is_err_and c.from_residual-in_err-lists.result c.from_residual-in_err-lists.ensures.1 in
    rw (p.1, p.2, c.in_ok-object_at.ensures, c.in_ok-head.ensures) (first_fails _ _ c.in_err-lists.field-0.0 c.in_err-lists.ensures)
