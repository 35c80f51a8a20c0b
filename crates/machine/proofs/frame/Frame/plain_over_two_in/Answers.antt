use Rattle.std.proofs.Common.{◌≡◌, Some, length, ◌∙◌, slice_get, w32}
use Rattle.std.proofs.lemmas.Int.{to_z-of_z}
use Rattle.machine.specs.Meets.{with_int}
use Rattle.machine.proofs.Closing.{goes_over_two}
use Rattle.machine.proofs.Going.{over_two_of}
use Rattle.machine.proofs.frame.Frame.plain_over_two_in.Goals as goal

pub returns-clause-does : goal.returns-clause-does
returns-clause-does c = λ P fs k.
    let found : slice_get c.args.ops.now c.args.self.now.pc ≡ Some c.op_of-op.result.now = rw (← c.self.view_is) c.op_of-op.ensures.op in
    let led = rw (to_z-of_z w32 c.args.x c.ranges.x, to_z-of_z w32 c.args.y c.ranges.y) at (c.plain_over_two.ensures.does P) in
    over_two_of P (with_int c.args.y (with_int c.args.x c.args.self.now)) c.plain_over_two.new.self fs c.op_of-op.result.now c.plain_over_two.result c.args.x c.args.y (k c.args.self.now.pc ∙ found) led

pub returns-clause-inside : goal.returns-clause-inside
returns-clause-inside c =
    goes_over_two (length c.args.ops.now) c.args.self.now.pc c.op_of-op.result.now c.plain_over_two.result (rw (← c.self.view_is) (c.op_of-op.ensures.behind c.requires.closed)) c.plain_over_two.ensures.ends
