use Rattle.std.proofs.Common.{◌≡◌, map, drop}
use Rattle.objects.specs.linking.Faults.{first_fault}
use Rattle.objects.specs.linking.ClassesFaults.{super_fault}
use Rattle.hierarchy.proofs.superclasses.first_super_fault.Given as goal

-- the classes before have no fault
abbrev pub invariant-loop-class : goal.invariant-loop-class
invariant-loop-class l = first_fault (super_fault l.places) (map (λ c. c.now) (drop l.class-index l.class-items)) ≡ first_fault (super_fault l.places) (map (λ c. c.now) l.class-items)
