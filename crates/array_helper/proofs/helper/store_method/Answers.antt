use Rattle.std.proofs.Common.{◌<◌, length, ap, arith}
use Rattle.array_helper.proofs.Gets.{store_shaped, store_stays}
use Rattle.array_helper.proofs.helper.store_method.Goals as goal

pub straight_method-requires-clause-each : goal.straight_method-requires-clause-each
straight_method-requires-clause-each c =
    let short : length c.args.pool.now < 65535 = omega (arith, ap length c.entries.ensures.value, c.entries.ensures.few) in
    store_shaped c.args.word c.args.pool.now c.add_write_call.new.pool short c.in_ok-code.code.items c.in_ok-write.write c.in_ok-code.ensures c.in_ok-write.ensures

pub straight_method-requires-clause-nowhere : goal.straight_method-requires-clause-nowhere
straight_method-requires-clause-nowhere c =
    let short : length c.args.pool.now < 65535 = omega (arith, ap length c.entries.ensures.value, c.entries.ensures.few) in
    store_stays c.args.word c.args.pool.now c.add_write_call.new.pool short c.in_ok-code.code.items c.in_ok-write.write c.in_ok-code.ensures c.in_ok-write.ensures
