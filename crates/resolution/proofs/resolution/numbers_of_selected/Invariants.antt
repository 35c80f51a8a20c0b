use Rattle.std.proofs.Common.{take}
use Rattle.resolution.specs.Resolving.{HasFirst, may_run}
use Rattle.resolution.proofs.resolution.numbers_of_selected.Given as goal

-- the numbers of those so far
abbrev pub invariant-loop-number : goal.invariant-loop-number
invariant-loop-number l = HasFirst may_run l.pool (take l.number l.methods) l.numbers
