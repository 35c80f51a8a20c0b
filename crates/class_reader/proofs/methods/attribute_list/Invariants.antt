use Rattle.std.proofs.Common.{◌≡◌, ◌-◌, false}
use Rattle.jmodel.specs.format.Reading.{items_at}
use Rattle.jmodel.specs.format.ClassFileReading.{method_attribute_at, full_name}
use Rattle.const_pool.proofs.Loops.{with_front}
use Rattle.class_reader.proofs.methods.attribute_list.Given as goal

abbrev pub invariant-loop : goal.invariant-loop
invariant-loop l =
    with_front l.items.items (items_at (method_attribute_at l.pool l.none (full_name l.pool l.head.name l.head.descriptor) l.bytes) (l.count - l.counter) (record { found = l.found; at = l.at })) ≡ items_at (method_attribute_at l.pool l.none (full_name l.pool l.head.name l.head.descriptor) l.bytes) l.count (record { found = false; at = l.start })
