use Rattle.std.proofs.Common.{◌≡◌, take}
use Rattle.verifier.proofs.rule.exits.Given as goal

abbrev pub invariant-loop-number : goal.invariant-loop-number
invariant-loop-number l = l.to.items ≡ take l.number l.exits
