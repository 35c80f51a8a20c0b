use Rattle.std.proofs.Common.{◌≡◌, map, reverse, take}
use Rattle.std.specs.List.{flat_map}
use Rattle.objects.specs.linking.Members.{own_name}
use Rattle.objects.specs.linking.Superclasses.{lineage}
use Rattle.hierarchy.proofs.starting.visits.Given as goal

-- the visits for the classes so far
abbrev pub invariant-loop-class : goal.invariant-loop-class
invariant-loop-class l = map (λ c. c.now) l.visited.items ≡ flat_map (λ c. reverse (lineage (map (λ k. k.now) l.classes) (own_name c.now))) (take l.class-index l.classes)
