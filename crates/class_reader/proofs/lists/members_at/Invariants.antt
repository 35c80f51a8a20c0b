use Rattle.std.proofs.Common.{◌≡◌, ◌-◌}
use Rattle.jmodel.specs.format.Reading.{items_at}
use Rattle.const_pool.proofs.Loops.{with_front}
use Rattle.class_reader.specs.Heads.{read_as}
use Rattle.class_reader.proofs.lists.members_at.Given as goal

abbrev pub invariant-loop : goal.invariant-loop
invariant-loop l = with_front l.items.items (items_at (read_as l.kind l.pool l.bytes) (l.count - l.counter) l.at) ≡ items_at (read_as l.kind l.pool l.bytes) l.count l.start
