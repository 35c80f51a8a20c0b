use Rattle.std.proofs.Common.{map, take}
use Rattle.hierarchy.specs.Names.{AreFirst}
use Rattle.linking.specs.Numbering.{array_key}
use Rattle.linking.proofs.numbering.numbers_of_arrays.Given as goal

-- the numbers of the types so far
abbrev pub invariant-loop-number : goal.invariant-loop-number
invariant-loop-number l = AreFirst l.numbers (map array_key (take l.number l.types))
