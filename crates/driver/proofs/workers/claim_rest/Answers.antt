use Rattle.std.proofs.Common.{◌<◌, ℕ, List, [], ◌∷◌, ◌++◌, refl, sym, ap, ◌∙◌, append_assoc, append-nil, arith}
use Rattle.claims.specs.Passes.{claims_of}
use Rattle.driver.proofs.Taking.{resting_first, resting_more, resting_end}
use Rattle.driver.proofs.workers.claim_rest.Goals as goal

pub loop-index-init : goal.loop-index-init
loop-index-init c = record {
  bag = c.requires.claims.0;
  rest = [];
  resting = resting_first c.args.bag.now.length (claims_of c.args.claims.now) c.requires.claims.1 c.requires.few.1;
  taken = sym (append-nil c.args.taken.now.items);
}

pub loop-index-preserved : goal.loop-index-preserved
loop-index-preserved c =
    let i = c.loop-index.invariant in
    let resting = i.resting in
    let index = c.in-Some.index in
    let some : 0 < (claims_of c.loop-index.claims).left = omega (arith, resting.gathered, resting.few, c.requires.few.0) in
    record {
      bag = c.claim.ensures.bag;
      rest = i.rest ++ index ∷ [];
      resting = resting_more c.args.bag.now.length index (claims_of c.args.claims.now) (claims_of c.loop-index.claims) (claims_of c.claim.new.self) i.rest
          (i.rest ++ index ∷ []) c.in-Some.ensures.claims refl some resting;
      taken = c.in_ok-push.ensures.items ∙ ap (λ (l : List ℕ). l ++ index ∷ []) i.taken ∙ append_assoc c.args.taken.now.items i.rest (index ∷ []);
    }

pub returns : goal.returns
returns c =
    let i = c.loop-index.invariant in (
      i.rest,
      resting_end c.args.bag.now.length (claims_of c.args.claims.now) (claims_of c.loop-index.claims) (claims_of c.claim.new.self) i.rest c.in_default.ensures.claims
          i.resting,
      i.taken,
    )
