use Rattle.std.proofs.Common.{◌≡◌, ◌+◌, drop}
use Rattle.verifier.specs.Order.{common_depth}
use Rattle.verifier.proofs.merging.common_depth.Given as goal

abbrev pub invariant-loop-i : goal.invariant-loop-i
invariant-loop-i l = common_depth l.a l.b ≡ l.i + common_depth (drop l.i l.a) (drop l.i l.b)
