use Rattle.std.proofs.Common.{take, map}
use Rattle.std.specs.List.{flat_map}
use Rattle.resolution.specs.Ways.{FindSame, AreMarks, entry_at}
use Rattle.resolution.proofs.ways.joined.Given as goal

-- what stands at the places so far
abbrev pub invariant-loop-place : goal.invariant-loop-place
invariant-loop-place l = AreMarks l.marks.items l.list.items × FindSame l.list.items (flat_map (entry_at (map (λ e. e.items) l.table)) (take l.place-index l.places))
