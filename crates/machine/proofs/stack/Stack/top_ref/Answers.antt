use Rattle.std.proofs.Common.{◌≡◌, Some, slice_get}
use Rattle.objects.specs.declared.op.Slot.TheVariants.{Ref}
use Rattle.machine.proofs.Slots.{top_is}
use Rattle.machine.proofs.stack.Stack.top_ref.Goals as goal

pub returns-in-Some-Ref : goal.returns-in-Some-Ref
returns-in-Some-Ref c =
    let e : slice_get c.args.self.now 0 ≡ Some (Ref c.in-Some-Ref.object) = cc in
    top_is c.args.self.now (Ref c.in-Some-Ref.object) e
