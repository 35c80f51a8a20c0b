use Rattle.std.proofs.Common.{◌≤◌, length, map}
use Rattle.std.specs.Prelude.{slice_get}
use Rattle.objects.specs.linking.Resolution.{interface_names}
use Rattle.resolution.specs.Ways.{IsTable, listed}
use Rattle.resolution.proofs.ways.all_interfaces.Given as goal

-- what the classes so far list
abbrev pub invariant-loop-class : goal.invariant-loop-class
invariant-loop-class l = (l.class-index ≤ length l.class-items) × IsTable (λ p. listed l.places interface_names (slice_get l.places p)) l.class-index (map (λ e. e.items) l.table.items)
