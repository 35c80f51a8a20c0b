use Rattle.std.proofs.Common.{◌≡◌, drop, map}
use Rattle.objects.specs.linking.Faults.{first_fault}
use Rattle.objects.specs.linking.ClassesFaults.{member_fault}
use Rattle.hierarchy.proofs.member_faults.members_fault.Given as goal

-- the classes before have no fault
abbrev pub invariant-loop-class : goal.invariant-loop-class
invariant-loop-class l = first_fault member_fault (map (λ c. c.now) (drop l.class-index l.classes)) ≡ first_fault member_fault (map (λ c. c.now) l.classes)
