use Rattle.std.proofs.Common.{◌≡◌, take}
use Rattle.hierarchy.specs.Selecting.{numbers_upward}
use Rattle.hierarchy.proofs.selection.lineage_numbers.Given as goal

-- the numbers of the classes so far
abbrev pub invariant-loop-class : goal.invariant-loop-class
invariant-loop-class l = l.numbers.items ≡ numbers_upward l.classes (take l.class-index l.lineage)
