use Rattle.std.proofs.Common.{take}
use Rattle.resolution.specs.Resolving.{HasFirst, any_member}
use Rattle.resolution.proofs.resolution.numbers_of.Given as goal

-- the numbers of those so far
abbrev pub invariant-loop-number : goal.invariant-loop-number
invariant-loop-number l = HasFirst any_member l.pool (take l.number l.members) l.numbers
