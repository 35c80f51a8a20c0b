use Rattle.std.proofs.Common.{length, arith, ap}
use Rattle.const_pool.proofs.Named.{pool_takes}
use Rattle.const_pool.proofs.Takes.{IsBytes}
use Rattle.class_reader.proofs.ClassLaws.{parts_take, parts_named}
use Rattle.class_reader.proofs.reader.read.Goals as goal

pub distinct_members-requires-clause-few : goal.distinct_members-requires-clause-few
distinct_members-requires-clause-few c =
    let fits : IsBytes c.args.bytes.now = λ i. omega (arith, c.type_inv.bytes i) in
    let pool = pool_takes c.args.bytes.now c.in_ok-minor.at (c.in_ok-pool.pool, c.in_ok-pool.at) fits c.in_ok-pool.ensures.exact in
    let parts = parts_take c.in_ok-minor.minor c.in_ok-pool.pool c.args.bytes.now pool.1.fit fits c.in_ok-pool.at (c.in_ok-class.class, c.in_ok-class.at) c.in_ok-class.ensures in
    omega (arith, pool.1.rules.few, ap length parts.pool_is)

pub distinct_members-requires-clause-fields : goal.distinct_members-requires-clause-fields
distinct_members-requires-clause-fields c =
    let fits : IsBytes c.args.bytes.now = λ i. omega (arith, c.type_inv.bytes i) in
    let pool = pool_takes c.args.bytes.now c.in_ok-minor.at (c.in_ok-pool.pool, c.in_ok-pool.at) fits c.in_ok-pool.ensures.exact in
    let parts = parts_take c.in_ok-minor.minor c.in_ok-pool.pool c.args.bytes.now pool.1.fit fits c.in_ok-pool.at (c.in_ok-class.class, c.in_ok-class.at) c.in_ok-class.ensures in
    (parts_named c.in_ok-minor.minor c.in_ok-pool.pool c.args.bytes.now c.in_ok-pool.at c.in_ok-class.class c.in_ok-class.at parts).0

pub distinct_members-requires-clause-methods : goal.distinct_members-requires-clause-methods
distinct_members-requires-clause-methods c =
    let fits : IsBytes c.args.bytes.now = λ i. omega (arith, c.type_inv.bytes i) in
    let pool = pool_takes c.args.bytes.now c.in_ok-minor.at (c.in_ok-pool.pool, c.in_ok-pool.at) fits c.in_ok-pool.ensures.exact in
    let parts = parts_take c.in_ok-minor.minor c.in_ok-pool.pool c.args.bytes.now pool.1.fit fits c.in_ok-pool.at (c.in_ok-class.class, c.in_ok-class.at) c.in_ok-class.ensures in
    (parts_named c.in_ok-minor.minor c.in_ok-pool.pool c.args.bytes.now c.in_ok-pool.at c.in_ok-class.class c.in_ok-class.at parts).1
