use Rattle.std.proofs.Common.{take}
use Rattle.hierarchy.specs.Search.{IsGrouped}
use Rattle.hierarchy.proofs.taken.grouped.Given as goal

-- the groups of the methods so far
abbrev pub invariant-loop-method : goal.invariant-loop-method
invariant-loop-method l = IsGrouped (take l.method-index l.methods) l.groups
