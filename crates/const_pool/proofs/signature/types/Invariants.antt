use Rattle.std.proofs.Common.{◌≡◌, ◌-◌}
use Rattle.jmodel.specs.format.DescriptorReading.{types_at}
use Rattle.const_pool.proofs.Reading.{with_types}
use Rattle.const_pool.proofs.signature.types.Given as goal

abbrev pub invariant-loop : goal.invariant-loop
invariant-loop l = with_types l.types.items (types_at (256 - l.counter) l.rest) ≡ types_at 256 l.bytes
