use Rattle.std.proofs.Common.{map, take}
use Rattle.heap_layout.specs.Folder.{HasPlaces}
use Rattle.heap_layout.proofs.folder.by_name.Given as goal

-- the places of the classes so far
abbrev pub invariant-loop-place : goal.invariant-loop-place
invariant-loop-place l = HasPlaces l.own.entries (map (λ c. c.now) (take l.place l.classes))
