use Rattle.std.proofs.Common.{take}
use Rattle.hierarchy.specs.Numbers.{AreNumbers}
use Rattle.hierarchy.proofs.numbered.numbers_of.Given as goal

-- the instructions so far have their numbers
abbrev pub invariant-loop-number : goal.invariant-loop-number
invariant-loop-number l = AreNumbers l.numbers.items (take l.number l.instrs)
