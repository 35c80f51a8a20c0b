use Rattle.std.proofs.Common.{◌<◌, length, ap, arith}
use Rattle.array_helper.proofs.Gets.{load_shaped, load_stays}
use Rattle.array_helper.proofs.helper.load_method.Goals as goal

pub straight_method-requires-clause-each : goal.straight_method-requires-clause-each
straight_method-requires-clause-each c =
    let short : length c.args.pool.now < 65535 = omega (arith, ap length c.entries.ensures.value, c.entries.ensures.few) in
    load_shaped c.args.word c.args.pool.now c.add_look_call.new.pool c.add_read_call.new.pool short c.in_ok-code.code.items c.in_ok-before.before c.in_ok-after.after c.in_ok-code.ensures c.in_ok-before.ensures c.in_ok-after.ensures

pub straight_method-requires-clause-nowhere : goal.straight_method-requires-clause-nowhere
straight_method-requires-clause-nowhere c =
    let short : length c.args.pool.now < 65535 = omega (arith, ap length c.entries.ensures.value, c.entries.ensures.few) in
    load_stays c.args.word c.args.pool.now c.add_look_call.new.pool c.add_read_call.new.pool short c.in_ok-code.code.items c.in_ok-before.before c.in_ok-after.after c.in_ok-code.ensures c.in_ok-before.ensures c.in_ok-after.ensures
