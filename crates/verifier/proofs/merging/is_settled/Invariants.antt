use Rattle.std.proofs.Common.{◌≡◌, length, true}
use Rattle.verifier.specs.Order.{are_within}
use Rattle.verifier.proofs.merging.is_settled.Given as goal

abbrev pub invariant-loop-part : goal.invariant-loop-part
invariant-loop-part l = are_within l.program l.stack l.stack ≡ are_within l.program l.left l.left

abbrev pub decreases-loop-part : goal.decreases-loop-part
decreases-loop-part l = length l.left
