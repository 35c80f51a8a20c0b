use Rattle.std.proofs.Common.{length}
use Rattle.verifier.proofs.kept.hash_stack.Given as goal

abbrev pub decreases-loop-item : goal.decreases-loop-item
decreases-loop-item l = length l.left
