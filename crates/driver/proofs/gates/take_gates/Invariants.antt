use Rattle.std.proofs.Common.{◌≡◌, List, Ok, map}
use Rattle.driver.proofs.gates.take_gates.Given as goal

abbrev pub invariant-loop-end : goal.invariant-loop-end
invariant-loop-end g l = record {
  ran : List (g.row.X.Denot × g.row.G.Denot);
  ends : l.yielded ≡ map Ok ran;
  left : l.left.items ≡ map (λ r. Ok r.0) ran;
  back : l.back.items ≡ map (λ r. r.1) ran;
}
