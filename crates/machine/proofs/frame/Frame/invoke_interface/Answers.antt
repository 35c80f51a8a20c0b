use Rattle.std.proofs.lemmas.Result.{err_from_is_err_and}
use Rattle.machine.proofs.Slots.{no_receiver}
use Rattle.machine.proofs.frame.Frame.invoke_interface.Goals as goal

pub returns-in_err-object-clause-does : goal.returns-in_err-object-clause-does
returns-in_err-object-clause-does c =
    let p = err_from_is_err_and c.from_residual-in_err-object.result c.from_residual-in_err-object.ensures.1 in
    rw (p.1, p.2, c.in_err-object.ensures.0) (no_receiver c.args.program.now c.args.n c.in_ok-method.method.now c.args.self.now _ c.in_ok-method.ensures c.in_err-object.ensures.1)
