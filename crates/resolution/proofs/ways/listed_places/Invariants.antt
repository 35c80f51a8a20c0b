use Rattle.std.proofs.Common.{take, map}
use Rattle.jmodel.specs.format.Pool.{text_or_none, class_name}
use Rattle.resolution.specs.Ways.{FindSame, AreMarks, places_of}
use Rattle.resolution.proofs.ways.listed_places.Given as goal

-- the places of the names so far
abbrev pub invariant-loop-index : goal.invariant-loop-index
invariant-loop-index l = AreMarks l.marks.items l.list.items × FindSame l.list.items (places_of l.places (map (λ i. text_or_none (class_name l.pool i)) (take l.index-index l.indexes)))
