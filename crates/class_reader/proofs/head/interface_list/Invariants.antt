use Rattle.std.proofs.Common.{◌≡◌, ◌-◌}
use Rattle.jmodel.specs.format.Reading.{items_at}
use Rattle.jmodel.specs.format.ClassFileReading.{class_index_at}
use Rattle.const_pool.proofs.Loops.{with_front}
use Rattle.class_reader.proofs.head.interface_list.Given as goal

abbrev pub invariant-loop : goal.invariant-loop
invariant-loop l = with_front l.items.items (items_at (class_index_at l.pool l.bytes) (l.count - l.counter) l.at) ≡ items_at (class_index_at l.pool l.bytes) l.count l.start
