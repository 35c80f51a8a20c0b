use Rattle.std.proofs.Common.{◌≡◌, ◌++◌, drop}
use Rattle.verifier.specs.Order.{join_all}
use Rattle.verifier.proofs.merging.join_all.Given as goal

abbrev pub invariant-loop-i : goal.invariant-loop-i
invariant-loop-i l = l.types.items ++ join_all l.program (drop l.i l.a) (drop l.i l.b) ≡ join_all l.program l.a l.b
