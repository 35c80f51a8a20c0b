use Rattle.std.proofs.Common.{◌≡◌, Some, None, slice_get}
use Rattle.std.proofs.lemmas.Result.{err_from_is_err_and}
use Rattle.machine.proofs.Going.{op_found, op_missing, done_of, done_none}
use Rattle.machine.proofs.frame.Frame.act_in.Goals as goal

pub returns-clause-does : goal.returns-clause-does
returns-clause-does c = λ fs.
    let found : slice_get c.args.method.now.ops c.args.self.now.pc ≡ Some c.in_ok-op.op.now = rw (← c.self.view_is, ← c.ops.ensures) c.in_ok-op.ensures.op in
    done_of c.args.program.now c.args.self.now c.act.new.self fs c.in_ok-op.op.now c.act.result
    (op_found c.args.program.now c.args.self.now.method c.args.self.now.pc c.args.method.now c.in_ok-op.op.now c.requires found) c.act.ensures.does

pub returns-in_err-op-clause-does : goal.returns-in_err-op-clause-does
returns-in_err-op-clause-does c = λ fs.
    let p = err_from_is_err_and c.from_residual.result c.from_residual.ensures.1 in
    let missing : slice_get c.args.method.now.ops c.args.self.now.pc ≡ None = rw (← c.self.view_is, ← c.ops.ensures) c.in_err-op.ensures.op.1 in
    rw (p.1, p.2) (done_none c.args.program.now c.args.self.now fs c.in_err-op.field-0.0 c.in_err-op.ensures.op.0
    (op_missing c.args.program.now c.args.self.now.method c.args.self.now.pc c.args.method.now c.requires missing))
