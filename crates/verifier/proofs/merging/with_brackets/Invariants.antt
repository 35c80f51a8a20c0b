use Rattle.std.proofs.Common.{◌≡◌, replicate}
use Rattle.verifier.proofs.merging.with_brackets.Given as goal

abbrev pub invariant-loop : goal.invariant-loop
invariant-loop l = l.items.items ≡ replicate l.counter 91
