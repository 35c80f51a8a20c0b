use Rattle.std.proofs.Common.{◌≡◌, take}
use Rattle.program_rewriter.proofs.copies.copy_types.Given as goal

-- the copies so far
abbrev pub invariant-loop-item : goal.invariant-loop-item
invariant-loop-item l = l.types.items ≡ take l.item-index l.from
