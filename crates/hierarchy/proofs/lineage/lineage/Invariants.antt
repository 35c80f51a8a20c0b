use Rattle.std.proofs.Common.{◌-◌, ◌++◌, List, map}
use Rattle.jmodel.specs.format.ClassFile.{ClassFile}
use Rattle.objects.specs.linking.Superclasses.{lineage}
use Rattle.hierarchy.proofs.Upward.{IsOnTheWay}
use Rattle.hierarchy.proofs.lineage.lineage.Given as goal

-- the classes so far, and those in the steps that are left
abbrev pub invariant-loop-step : goal.invariant-loop-step
invariant-loop-step l = IsOnTheWay (λ (above : List ClassFile). map (λ c. c.now) l.classes.items ++ above) l.places l.place (l.count - l._step) (lineage l.places l.name)
