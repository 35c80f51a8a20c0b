use Rattle.std.proofs.Common.{◌-◌, ◌++◌}
use Rattle.objects.specs.linking.Superclasses.{lineage}
use Rattle.resolution.specs.Ways.{classes_at}
use Rattle.hierarchy.proofs.Upward.{IsOnTheWay}
use Rattle.resolution.proofs.ways.lineage_of.Given as goal

-- the classes so far, and those in the steps that are left
abbrev pub invariant-loop-step : goal.invariant-loop-step
invariant-loop-step l = IsOnTheWay (λ above. classes_at l.places l.list.items ++ above) l.places l.place (l.count - l._step) (lineage l.places l.name)
