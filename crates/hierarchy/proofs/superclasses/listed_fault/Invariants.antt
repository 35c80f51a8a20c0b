use Rattle.std.proofs.Common.{◌≡◌, drop, map}
use Rattle.objects.specs.linking.Faults.{first_fault}
use Rattle.jmodel.specs.format.Pool.{text_or_none, class_name}
use Rattle.objects.specs.linking.ClassesFaults.{interface_fault}
use Rattle.hierarchy.proofs.superclasses.listed_fault.Given as goal

-- the interfaces before have no fault
abbrev pub invariant-loop-index : goal.invariant-loop-index
invariant-loop-index l =
    first_fault (interface_fault l.places l.own) (map (λ i. text_or_none (class_name l.pool i)) (drop l.index-index l.interfaces)) ≡ first_fault (interface_fault l.places l.own) (map (λ i. text_or_none (class_name l.pool i)) l.interfaces)
