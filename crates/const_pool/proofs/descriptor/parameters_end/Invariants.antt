use Rattle.std.proofs.Common.{◌≡◌, ◌-◌, ◌*◌, ◌≤◌}
use Rattle.jmodel.specs.format.DescriptorReading.{types_at, with_places}
use Rattle.const_pool.proofs.descriptor.parameters_end.Given as goal

abbrev pub invariant-loop : goal.invariant-loop
invariant-loop l = (with_places l.total (types_at (256 - l.counter) l.rest) ≡ with_places 0 (types_at 256 l.bytes)) × (l.total ≤ 2 * l.counter)
