use Rattle.std.proofs.Common.{map, take}
use Rattle.hierarchy.specs.Names.{AreFirst}
use Rattle.hierarchy.specs.Selecting.{class_key}
use Rattle.hierarchy.proofs.selection.class_numbers.Given as goal

-- the numbers of the methods so far
abbrev pub invariant-loop-number : goal.invariant-loop-number
invariant-loop-number l = AreFirst l.numbers (map class_key (take l.number l.methods))
