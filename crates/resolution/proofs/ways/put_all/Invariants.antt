use Rattle.std.proofs.Common.{◌++◌, take}
use Rattle.resolution.specs.Ways.{FindSame, AreMarks}
use Rattle.resolution.proofs.ways.put_all.Given as goal

-- the places so far are behind those that were there
abbrev pub invariant-loop-place : goal.invariant-loop-place
invariant-loop-place l = AreMarks l.marks.items l.list.items × FindSame l.list.items (l.initial.list.items ++ take l.place-index l.places)
