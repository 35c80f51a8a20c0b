use Rattle.std.proofs.Common.{◌≡◌, ◌-◌}
use Rattle.jmodel.specs.format.Reading.{items_at}
use Rattle.jmodel.specs.format.InstructionReading.{pair_at}
use Rattle.const_pool.proofs.Loops.{with_front}
use Rattle.bytecode.proofs.switches.pair_list.Given as goal

abbrev pub invariant-loop : goal.invariant-loop
invariant-loop l = with_front l.items.items (items_at (pair_at l.pc l.bytes) (l.count - l.counter) l.at) ≡ items_at (pair_at l.pc l.bytes) l.count l.start
