use Rattle.std.proofs.Common.{◌≡◌, Some, length, ◌∙◌, slice_get, subst, w32, ℤ}
use Rattle.std.proofs.lemmas.Int.{to_z-of_z}
use Rattle.objects.specs.semantics.Step.{does}
use Rattle.machine.specs.Meets.{FlowsOver, with_int}
use Rattle.machine.proofs.Closing.{goes_over}
use Rattle.machine.proofs.Going.{over_of}
use Rattle.machine.proofs.frame.Frame.plain_over_in.Goals as goal

pub returns-clause-does : goal.returns-clause-does
returns-clause-does c = λ P fs k.
    let found : slice_get c.args.ops.now c.args.self.now.pc ≡ Some c.op_of-op.result.now = rw (← c.self.view_is) c.op_of-op.ensures.op in
    let led = subst (λ (z : ℤ). FlowsOver c.plain_over.result z c.plain_over.new.self (with_int z c.args.self.now) (does P c.op_of-op.result.now (with_int z c.args.self.now)))
    (to_z-of_z w32 c.args.top c.ranges.top) (c.plain_over.ensures.does P) in
    over_of P (with_int c.args.top c.args.self.now) c.plain_over.new.self fs c.op_of-op.result.now c.plain_over.result c.args.top (k c.args.self.now.pc ∙ found) led

pub returns-clause-inside : goal.returns-clause-inside
returns-clause-inside c =
    goes_over (length c.args.ops.now) c.args.self.now.pc c.op_of-op.result.now c.plain_over.result (rw (← c.self.view_is) (c.op_of-op.ensures.behind c.requires.closed)) c.plain_over.ensures.ends
