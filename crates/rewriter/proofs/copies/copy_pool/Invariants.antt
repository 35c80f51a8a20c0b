use Rattle.std.proofs.Common.{◌≡◌, take}
use Rattle.rewriter.proofs.copies.copy_pool.Given as goal

-- the copies so far
abbrev pub invariant-loop-entry : goal.invariant-loop-entry
invariant-loop-entry l = l.entries.items ≡ take l.entry-index l.entry-items
