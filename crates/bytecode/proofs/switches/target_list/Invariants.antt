use Rattle.std.proofs.Common.{◌≡◌, ◌-◌}
use Rattle.std.specs.Int.{w32}
use Rattle.jmodel.specs.format.Reading.{items_at}
use Rattle.jmodel.specs.format.InstructionReading.{target_at}
use Rattle.const_pool.proofs.Loops.{with_front}
use Rattle.bytecode.proofs.switches.target_list.Given as goal

abbrev pub invariant-loop : goal.invariant-loop
invariant-loop l = with_front l.items.items (items_at (target_at w32 l.pc l.bytes) (l.count - l.counter) l.at) ≡ items_at (target_at w32 l.pc l.bytes) l.count l.start
