use Rattle.std.proofs.Common.{w64}
use Rattle.std.proofs.Math.Facts.{to_z-of_z}
use Rattle.jmodel.specs.format.PoolAdding.{means_long}
use Rattle.const_pool.proofs.FirstLemmas.{position_inside}
use Rattle.const_pool.proofs.Indexes.{joined, long_looked_up}
use Rattle.const_pool.proofs.meanings.first_long.Goals as goal

pub returns-clause-exact : goal.returns-clause-exact
returns-clause-exact c =
    let same = to_z-of_z {w = w64} {z = c.args.n} c.ranges.n in
    let rest = rw same at c.long_among-rest.ensures.exact in
    let known = rw same at c.long.ensures in
    joined (means_long c.args.n) c.args.pool.now c.entries.result.now c.count.result c.count-2.result c.index-index.result.now.count c.long.result c.long_among-rest.result c.in_order.result _ c.in_order.ensures c.count-2.ensures c.count.ensures c.entries.ensures.value rest known (long_looked_up c.index-index.result.now c.args.pool.now c.index-index.ensures c.args.n)

pub returns-clause-inside : goal.returns-clause-inside
returns-clause-inside c = position_inside (means_long c.args.n) c.args.pool.now c.in_order.result (returns-clause-exact c)
