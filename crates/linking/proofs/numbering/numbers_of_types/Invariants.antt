use Rattle.std.proofs.Common.{map, take}
use Rattle.hierarchy.specs.Names.{AreFirst}
use Rattle.linking.specs.Numbering.{type_key}
use Rattle.linking.proofs.numbering.numbers_of_types.Given as goal

-- the numbers of the types so far
abbrev pub invariant-loop-number : goal.invariant-loop-number
invariant-loop-number l = AreFirst l.numbers (map type_key (take l.number l.types))
