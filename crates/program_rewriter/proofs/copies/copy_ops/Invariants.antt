use Rattle.std.proofs.Common.{◌≡◌, take}
use Rattle.program_rewriter.proofs.copies.copy_ops.Given as goal

-- the copies so far
abbrev pub invariant-loop-op : goal.invariant-loop-op
invariant-loop-op l = l.ops.items ≡ take l.op-index l.from
