use Rattle.std.proofs.Common.{◌≡◌, take, replicate}
use Rattle.type_lists.proofs.tree.are_all.Given as goal

abbrev pub invariant-loop-t : goal.invariant-loop-t
invariant-loop-t l = take l.t-index l.types ≡ replicate l.t-index l.item
