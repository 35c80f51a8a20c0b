use Rattle.std.proofs.Common.{◌+◌, ◌<◌}
use Rattle.claims.specs.Passes.{claims_of, IsOf}
use Rattle.part_tests.proofs.bags.claim_all.Given as goal

abbrev pub invariant-loop : goal.invariant-loop
invariant-loop l = IsOf l.bag l.pass × (l.end < l.counter + (claims_of l.pass).left)
