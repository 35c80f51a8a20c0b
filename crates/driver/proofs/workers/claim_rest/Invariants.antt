use Rattle.std.proofs.Common.{◌≡◌, ◌++◌, ℕ, List}
use Rattle.claims.specs.Passes.{claims_of, IsOf}
use Rattle.driver.proofs.Taking.{Resting}
use Rattle.driver.proofs.workers.claim_rest.Given as goal

abbrev pub invariant-loop-index : goal.invariant-loop-index
invariant-loop-index l = record {
  bag : IsOf l.bag l.claims;
  rest : List ℕ;
  resting : Resting l.bag.length (claims_of l.fn.claims) (claims_of l.claims) rest;
  taken : l.taken.items ≡ l.fn.taken.items ++ rest;
}

abbrev pub decreases-loop-index : goal.decreases-loop-index
decreases-loop-index l = (claims_of l.claims).left
