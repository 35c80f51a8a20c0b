use Rattle.std.proofs.Common.{◌≡◌, length}
use Rattle.verifier.proofs.kept.are_same_stacks.Given as goal

abbrev pub invariant-loop-part : goal.invariant-loop-part
invariant-loop-part l = l.a ≡ l.b → l.fn.a ≡ l.fn.b

abbrev pub decreases-loop-part : goal.decreases-loop-part
decreases-loop-part l = length l.a
