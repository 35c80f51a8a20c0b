use Rattle.std.proofs.Common.{map, take}
use Rattle.hierarchy.specs.Names.{AreFirst}
use Rattle.hierarchy.specs.Places.{class_key}
use Rattle.hierarchy.proofs.places.by_name.Given as goal

-- the places of the classes so far
abbrev pub invariant-loop-place : goal.invariant-loop-place
invariant-loop-place l = AreFirst l.places (map (λ c. class_key c.now) (take l.place l.classes))
