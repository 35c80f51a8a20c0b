use Rattle.std.proofs.Common.{◌<◌, length, ap, arith}
use Rattle.field_members.proofs.Flat.{getter_shaped, getter_nowhere}
use Rattle.field_members.proofs.accessors.getter_of.Goals as goal

pub straight_method-requires-clause-each : goal.straight_method-requires-clause-each
straight_method-requires-clause-each c =
    let short : length c.args.pool.now < 65535 = omega (arith, ap length c.entries.ensures.value, c.entries.ensures.few) in
    getter_shaped c.args.field.now c.args.pool.now c.getter_instrs.new.pool c.in_ok-code.code.items short c.in_ok-code.ensures

pub straight_method-requires-clause-nowhere : goal.straight_method-requires-clause-nowhere
straight_method-requires-clause-nowhere c =
    let short : length c.args.pool.now < 65535 = omega (arith, ap length c.entries.ensures.value, c.entries.ensures.few) in
    getter_nowhere c.args.field.now c.args.pool.now c.getter_instrs.new.pool c.in_ok-code.code.items short c.in_ok-code.ensures
