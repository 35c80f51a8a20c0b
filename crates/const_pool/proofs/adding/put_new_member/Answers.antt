use Rattle.jmodel.specs.format.PoolAdding.{new_member}
use Rattle.const_pool.proofs.Longer.{longer_on}
use Rattle.const_pool.proofs.adding.put_new_member.Goals as goal

pub returns : goal.returns
unfolding new_member
returns c = record {
  puts = rw (c.in_ok-class.ensures.puts, c.in_ok-pair.ensures.puts, ← c.reference.ensures) c.put.ensures.puts;
  grows = longer_on c.args.pool.now c.put_pair.new.pool c.put.new.self (longer_on c.args.pool.now c.put_class.new.pool c.put_pair.new.pool c.put_class.ensures.grows c.put_pair.ensures.grows) c.put.ensures.grows;
}
