use Rattle.std.proofs.Common.{◌≡◌, drop, map}
use Rattle.objects.specs.linking.Faults.{first_fault}
use Rattle.objects.specs.linking.Constructs.{construct_fault}
use Rattle.resolution.proofs.constructs.first_construct.Given as goal

-- the methods before have no fault
abbrev pub invariant-loop-method : goal.invariant-loop-method
invariant-loop-method l = first_fault (construct_fault l.resolver) (map (λ m. m.now) (drop l.method-index l.methods)) ≡ first_fault (construct_fault l.resolver) (map (λ m. m.now) l.methods)
