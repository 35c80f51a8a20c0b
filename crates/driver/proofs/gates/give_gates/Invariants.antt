use Rattle.std.proofs.Common.{◌≡◌, ◌++◌, map}
use Rattle.driver.proofs.gates.give_gates.Given as goal

abbrev pub invariant-loop-one : goal.invariant-loop-one
invariant-loop-one g l = record {
  ones : map (λ p. p.0) l.given.items ≡ l.yielded;
  gates : map (λ p. p.1) l.given.items ++ l.gates.items ≡ l.fn.gates.items;
}
