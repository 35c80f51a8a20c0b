use Rattle.std.proofs.Common.{◌≡◌, length}
use Rattle.run_tests.proofs.gates.holding_gates.Given as goal

abbrev pub invariant-loop-lane : goal.invariant-loop-lane
invariant-loop-lane l = length l.gates.items ≡ l.lane
