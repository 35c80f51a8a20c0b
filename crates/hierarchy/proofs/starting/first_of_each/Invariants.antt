use Rattle.std.proofs.Common.{[], map, drop}
use Rattle.objects.specs.linking.Classes.{unseen}
use Rattle.hierarchy.proofs.Visits.{AreVisited}
use Rattle.hierarchy.proofs.starting.first_of_each.Given as goal

-- those so far, and those of other names that are still to come
abbrev pub invariant-loop-class : goal.invariant-loop-class
invariant-loop-class l = AreVisited l.names (map (λ c. c.now) l.firsts.items) (map (λ c. c.now) (drop l.class-index l.classes)) (unseen [] (map (λ c. c.now) l.classes))
