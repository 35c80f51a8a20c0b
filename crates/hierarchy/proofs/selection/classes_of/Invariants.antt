use Rattle.std.proofs.Common.{◌≡◌, map, take}
use Rattle.hierarchy.specs.Selecting.{numbers_upward}
use Rattle.hierarchy.proofs.selection.classes_of.Given as goal

-- the numbers of the classes of the types so far
abbrev pub invariant-loop-row : goal.invariant-loop-row
invariant-loop-row l = map (λ n. n.items) l.numbers.items ≡ map (λ r. numbers_upward l.classes r.lineage) (take l.row-index l.types)
