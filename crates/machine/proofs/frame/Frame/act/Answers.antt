use Rattle.std.proofs.Common.{◌≡◌}
use Rattle.objects.specs.declared.op.Width.TheVariants as width
use Rattle.machine.proofs.frame.Frame.act.Goals as goal

pub returns-in-Shift-clause-does : goal.returns-in-Shift-clause-does
returns-in-Shift-clause-does c = rw c.in-Shift.is (c.shift.ensures.does c.args.program.now)

pub returns-in-Unary-clause-does : goal.returns-in-Unary-clause-does
returns-in-Unary-clause-does c = rw c.in-Unary.is (c.unary.ensures.does c.args.program.now)

pub returns-in-CompareLongs-clause-does : goal.returns-in-CompareLongs-clause-does
returns-in-CompareLongs-clause-does c = rw c.in-CompareLongs.is (c.compare_longs.ensures.does c.args.program.now)

pub returns-in-ReturnValue-clause-does : goal.returns-in-ReturnValue-clause-does
returns-in-ReturnValue-clause-does c = rw c.in-ReturnValue.is (c.return_value.ensures.does c.args.program.now)

pub returns-in-GetField-clause-does : goal.returns-in-GetField-clause-does
returns-in-GetField-clause-does c = rw c.in-GetField.is (c.get_field.ensures.does c.in-GetField.class)

pub returns-in-PutField-clause-does : goal.returns-in-PutField-clause-does
returns-in-PutField-clause-does c = rw c.in-PutField.is (c.put_field.ensures.does c.in-PutField.class)

pub returns-in-Binary-Long-default-clause-does : goal.returns-in-Binary-Long-default-clause-does
returns-in-Binary-Long-default-clause-does c =
    let of : c.in-Binary-Long-default.field-0 ≡ width.Long = rw c.in-Binary-Long-default.is at c.in-Binary-Long-default.field-0-is in
    rw (c.in-Binary-Long-default.is, of) (c.add_longs.ensures.does c.args.program.now)

pub returns-in-Divide-Long-default-clause-does : goal.returns-in-Divide-Long-default-clause-does
returns-in-Divide-Long-default-clause-does c =
    let of : c.in-Divide-Long-default.field-0 ≡ width.Long = rw c.in-Divide-Long-default.is at c.in-Divide-Long-default.field-0-is in
    rw (c.in-Divide-Long-default.is, of) (c.divide_longs.ensures.does c.args.program.now)
