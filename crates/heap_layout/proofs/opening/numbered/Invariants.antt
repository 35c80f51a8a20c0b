use Rattle.std.proofs.Common.{map, take}
use Rattle.hierarchy.specs.Names.{AreFirst}
use Rattle.heap_layout.specs.Opening.{text_key}
use Rattle.heap_layout.proofs.opening.numbered.Given as goal

-- the numbers of the texts so far
abbrev pub invariant-loop-number : goal.invariant-loop-number
invariant-loop-number l = AreFirst l.numbers (map (λ t. text_key t.now) (take l.number l.texts))
