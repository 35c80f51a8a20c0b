use Rattle.jmodel.specs.format.PoolAdding.{means_text}
use Rattle.const_pool.proofs.FirstLemmas.{position_inside}
use Rattle.const_pool.proofs.Indexes.{joined, text_looked_up}
use Rattle.const_pool.proofs.meanings.first_text.Goals as goal

pub returns-clause-exact : goal.returns-clause-exact
returns-clause-exact c = joined (means_text c.args.text.now) c.args.pool.now c.entries.result.now c.count.result c.count-2.result c.index-index.result.now.count c.text.result c.text_among-rest.result c.in_order.result _ c.in_order.ensures c.count-2.ensures c.count.ensures c.entries.ensures.value c.text_among-rest.ensures.exact c.text.ensures (text_looked_up c.index-index.result.now c.args.pool.now c.index-index.ensures c.args.text.now)

pub returns-clause-inside : goal.returns-clause-inside
returns-clause-inside c = position_inside (means_text c.args.text.now) c.args.pool.now c.in_order.result (returns-clause-exact c)
