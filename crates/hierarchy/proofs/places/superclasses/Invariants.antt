use Rattle.std.proofs.Common.{◌≡◌, map, take}
use Rattle.objects.specs.linking.Superclasses.{super_name}
use Rattle.hierarchy.specs.Places.{place_of}
use Rattle.hierarchy.proofs.places.superclasses.Given as goal

-- the places of those above the classes so far
abbrev pub invariant-loop-class : goal.invariant-loop-class
invariant-loop-class l = l.above.items ≡ map (λ c. place_of (map (λ k. k.now) l.classes) (super_name c.now)) (take l.class-index l.classes)
