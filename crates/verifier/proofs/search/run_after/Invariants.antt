use Rattle.std.proofs.Common.{◌≡◌, ◌-◌, replicate}
use Rattle.verifier.specs.Search.{after_all}
use Rattle.verifier.proofs.search.run_after.Given as goal

abbrev pub invariant-loop : goal.invariant-loop
invariant-loop l = after_all l.fn.after (replicate l.count l.item) ≡ after_all l.after (replicate (l.count - l.counter) l.item)
