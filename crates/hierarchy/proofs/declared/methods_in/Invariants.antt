use Rattle.std.proofs.Common.{◌≡◌, map, take}
use Rattle.objects.specs.linking.Classes.{methods_in}
use Rattle.hierarchy.proofs.declared.methods_in.Given as goal

-- the methods of the classes so far
abbrev pub invariant-loop-class : goal.invariant-loop-class
invariant-loop-class l = l.methods.items ≡ methods_in (map (λ c. c.now) (take l.class-index l.classes))
