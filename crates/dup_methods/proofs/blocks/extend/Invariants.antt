use Rattle.std.proofs.Common.{◌≡◌, ◌++◌}
use Rattle.dup_methods.proofs.blocks.extend.Given as goal

-- those behind which the others are put, and the others so far
abbrev pub invariant-loop-i : goal.invariant-loop-i
invariant-loop-i l = l.instrs.items ≡ l.initial.instrs.items ++ l.yielded
