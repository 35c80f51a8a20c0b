use Rattle.std.proofs.Common.{subst, arith}
use Rattle.jmodel.specs.format.Reading.{Gives}
use Rattle.const_pool.proofs.Named.{pool_rules, pool_found, pool_is_read}
use Rattle.const_pool.proofs.pool.Pool.read.Goals as goal

pub returns-clause-rules : goal.returns-clause-rules
returns-clause-rules c = pool_rules c.args.bytes.now c.args.at c.read_pool.result (λ i. omega (arith, c.type_inv.bytes i)) c.read_pool.ensures

pub returns-clause-found : goal.returns-clause-found
returns-clause-found c = pool_found c.args.bytes.now c.args.at c.read_pool.result (λ i. omega (arith, c.type_inv.bytes i)) c.read_pool.ensures

pub returns-clause-only : goal.returns-clause-only
returns-clause-only c = λ p rest h e. subst (λ o. Gives (λ x. x) c.read_pool.result o) (pool_is_read c.args.bytes.now c.args.at p rest h e) c.read_pool.ensures
