use Rattle.std.proofs.Common.{map, take}
use Rattle.hierarchy.specs.Names.{AreFirst}
use Rattle.linking.specs.Numbering.{field_key}
use Rattle.linking.proofs.numbering.numbers_of_fields.Given as goal

-- the numbers of the fields so far
abbrev pub invariant-loop-number : goal.invariant-loop-number
invariant-loop-number l = AreFirst l.numbers (map field_key (take l.number l.fields))
