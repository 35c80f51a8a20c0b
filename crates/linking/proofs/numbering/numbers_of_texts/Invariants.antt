use Rattle.std.proofs.Common.{map, take}
use Rattle.hierarchy.specs.Names.{AreFirst}
use Rattle.linking.specs.Numbering.{text_key}
use Rattle.linking.proofs.numbering.numbers_of_texts.Given as goal

-- the numbers of the texts so far
abbrev pub invariant-loop-number : goal.invariant-loop-number
invariant-loop-number l = AreFirst l.numbers (map text_key (take l.number l.texts))
