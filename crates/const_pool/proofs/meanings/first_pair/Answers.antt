use Rattle.jmodel.specs.format.PoolAdding.{means_pair}
use Rattle.const_pool.proofs.FirstLemmas.{position_inside}
use Rattle.const_pool.proofs.Indexes.{joined, pair_looked_up}
use Rattle.const_pool.proofs.meanings.first_pair.Goals as goal

pub returns-clause-exact : goal.returns-clause-exact
returns-clause-exact c = joined (means_pair c.args.pool.now c.args.name.now c.args.descriptor.now) c.args.pool.now c.entries.result.now c.count.result c.count-2.result c.index-index.result.now.count c.pair.result c.pair_among-rest.result c.in_order.result _ c.in_order.ensures c.count-2.ensures c.count.ensures c.entries.ensures.value c.pair_among-rest.ensures.exact c.pair.ensures (pair_looked_up c.index-index.result.now c.args.pool.now c.index-index.ensures c.args.name.now c.args.descriptor.now)

pub returns-clause-inside : goal.returns-clause-inside
returns-clause-inside c = position_inside (means_pair c.args.pool.now c.args.name.now c.args.descriptor.now) c.args.pool.now c.in_order.result (returns-clause-exact c)
