use Rattle.std.proofs.lemmas.Result.{err_from_is_err_and}
use Rattle.machine.proofs.frame.Frame.store_object.Goals as goal

pub returns-in_err-slot-clause-does : goal.returns-in_err-slot-clause-does
returns-in_err-slot-clause-does c =
    let p = err_from_is_err_and c.from_residual.result c.from_residual.ensures.1 in
    rw (p.1, p.2, c.in_err-slot.ensures.0, ← c.self.view_is) (c.in_err-slot.ensures.1 _)
