use Rattle.std.proofs.Common.{◌≡◌, take}
use Rattle.program_rewriter.proofs.copies.copy_rows.Given as goal

-- the copies so far
abbrev pub invariant-loop-row : goal.invariant-loop-row
invariant-loop-row l = l.rows.items ≡ take l.row-index l.from
