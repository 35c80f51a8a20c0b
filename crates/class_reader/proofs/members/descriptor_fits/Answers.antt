use Rattle.std.specs.Prelude.{true, false}
use Rattle.class_reader.proofs.Steps.{fits_is}
use Rattle.class_reader.proofs.members.descriptor_fits.Goals as goal

pub returns-then-is_method_wanted : goal.returns-then-is_method_wanted
returns-then-is_method_wanted c =
    rw c.if-is_method_wanted.true (rw (fits_is c.args.pool.now c.args.i c.in_ok-utf8_at.field-0.now true c.is_method.result c.in_ok-utf8_at.ensures (rw (← c.requires) c.is_method.ensures)) c.want_descriptor.ensures)

pub returns-else-is_method_wanted : goal.returns-else-is_method_wanted
returns-else-is_method_wanted c =
    rw c.if-is_method_wanted.false (rw (fits_is c.args.pool.now c.args.i c.in_ok-utf8_at.field-0.now false c.is_field.result c.in_ok-utf8_at.ensures (rw (← c.requires) c.is_field.ensures)) c.want_descriptor-else-is_method_wanted.ensures)
