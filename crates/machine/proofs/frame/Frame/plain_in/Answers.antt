use Rattle.std.proofs.Common.{◌≡◌, Some, length, ◌∙◌, slice_get}
use Rattle.machine.proofs.Closing.{goes_on}
use Rattle.machine.proofs.Going.{outcome_of}
use Rattle.machine.proofs.frame.Frame.plain_in.Goals as goal

pub returns-clause-does : goal.returns-clause-does
returns-clause-does c = λ P fs k.
    let found : slice_get c.args.ops.now c.args.self.now.pc ≡ Some c.op_of-op.result.now = rw (← c.self.view_is) c.op_of-op.ensures.op in
    outcome_of P c.args.self.now c.plain.new.self fs c.op_of-op.result.now c.plain.result (k c.args.self.now.pc ∙ found) (c.plain.ensures.does P)

pub returns-clause-inside : goal.returns-clause-inside
returns-clause-inside c =
    goes_on (length c.args.ops.now) c.args.self.now.pc c.op_of-op.result.now c.plain.result (rw (← c.self.view_is) (c.op_of-op.ensures.behind c.requires.closed)) c.plain.ensures.ends
