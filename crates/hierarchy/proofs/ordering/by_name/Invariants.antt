use Rattle.std.proofs.Common.{map, reverse}
use Rattle.hierarchy.specs.Ordered.{IsInOrder}
use Rattle.hierarchy.proofs.InOrder.{AreApart}
use Rattle.hierarchy.proofs.ordering.by_name.Given as goal

-- the classes so far, of which the last one comes first
abbrev pub invariant-loop-file : goal.invariant-loop-file
invariant-loop-file l = AreApart (reverse (map (λ c. c.now) l.yielded)) → IsInOrder l.classes.entries (reverse (map (λ c. c.now) l.yielded))
