-- Each step keeps the rule.
use Rattle.std.proofs.Common.{◌≡◌, ◌≢◌, ℕ, suc, ◌+◌, ◌%◌, ◌^◌, ◌<◌, ◌≤◌, List, [], ◌∷◌, ◌++◌, length, get_or, set, Option, Some, None, cond, nat_lt, refl, sym, ap, ◌∙◌, subst, ⊎_elim, arith}
use mathlib.Core.Option.{none, some}
use lib.ListN.{get_elem?}
use Rattle.std.proofs.Math.Nat.{mod-eq_of_lt}
use Rattle.std.proofs.Math.ListN.{length-set}
use Rattle.atomic_table.specs.Table.{Me, step, keeps, Allows, Splits, Joins}
use Rattle.atomic_table.proofs.Lists.{at_set, at_snoc, set_else}
use Rattle.claims.specs.Claims.{Claims, Ascends, no_claims, claimed, stays, goes, joined, weigh, below, HasClaimed}
use Rattle.claims.specs.Steps.{IsKept, Takes}
use Rattle.claims.proofs.Weights.{weigh-append, weigh-set, weigh-at, weigh-two}
use Rattle.claims.proofs.Numbers.{is, times, at_most_once, below_snoc, weigh-below}
use Rattle.claims.proofs.Ascending.{ascends_snoc, ascends_merged, weigh-merged}
use Rattle.claims.proofs.Gathered.{over, gathered}

-- what the word is after it was set
word_set : (words : List ℕ) (n : ℕ) → length words ≡ 1 → get_or (set words 0 n) 0 0 ≡ n
word_set [] n e = absurd (omega arith)
word_set (x ∷ xs) n e = refl

-- each list ascends, where one pass changes
each_set : (views : List Claims) (me : ℕ) (w : Claims) → Ascends w.indexes → ((seat : ℕ) (v : Claims) → get_elem? views seat ≡ some v → Ascends v.indexes)
    → (seat : ℕ) (v : Claims) → get_elem? (set views me w) seat ≡ some v → Ascends v.indexes
each_set views me w up each seat v e = ⊎_elim
    (λ (t : (seat ≡ me) × (w ≡ v)). subst (λ (u : Claims). Ascends u.indexes) t.1 up)
    (λ (t : (seat ≢ me) × (get_elem? views seat ≡ some v)). each seat v t.1)
    (at_set views me seat w v e)

module _ {S : Type 0} where
  pub claims : (slots id : ℕ) (me : Me S Claims) → 0 < me.0.left → Allows IsKept slots id me 0 (λ n. (n + 1) % 2 ^ 64) (Takes (step slots 0 1 0 none) me)
  claims slots id me some_left s r long at small =
      let n : ℕ = get_or s.words 0 0 in
      let v : Claims = me.0 in
      let w : Claims = claimed v n in
      let mine = weigh-at (λ (u : Claims). u.left) s.views id v at in
      let fits : n < 4294967296 = let q = r.room in omega arith in
      let next : (n + 1) % 2 ^ 64 ≡ suc n = mod-eq_of_lt (omega arith) ∙ omega arith in
      let word_is : get_or (set s.words 0 ((n + 1) % 2 ^ 64)) 0 0 ≡ suc n = word_set s.words ((n + 1) % 2 ^ 64) r.wide ∙ next in
      let under = over s.words s.views r id v at in (
        w,
        keeps,
        tt,
        record {
          wide = length-set s.words 0 ((n + 1) % 2 ^ 64) ∙ r.wide;
          together = λ h. let p = weigh-set (λ (u : Claims). weigh h u.indexes) s.views id v w at in
              let q = weigh-append h v.indexes (n ∷ []) in
              let t = r.together h in
              let u = ap (λ m. weigh h (below m)) word_is in
              let k = weigh-below h n in
              omega arith;
          ascending = each_set s.views id w (ascends_snoc v.indexes n (r.ascending id v at) under) r.ascending;
          room = let p = weigh-set (λ (u : Claims). u.left) s.views id v w at in let q = r.room in omega arith;
        },
        (refl, fits, under, gathered s.words s.views r id v at),
      )

  pub splits : (count id : ℕ) (v : Claims) → count ≤ v.left → Splits {S = S} IsKept id v (stays count v) (goes count)
  splits count id v enough s r at = record {
    wide = r.wide;
    together = λ h. let p = weigh-set (λ (u : Claims). weigh h u.indexes) s.views id v (stays count v) at in
        let q = weigh-append (λ (u : Claims). weigh h u.indexes) (set s.views id (stays count v)) (goes count ∷ []) in
        let t = r.together h in
        omega arith;
    ascending = λ seat u e. ⊎_elim
        (λ (f : get_elem? (set s.views id (stays count v)) seat ≡ some u). each_set s.views id (stays count v) (r.ascending id v at) r.ascending seat u f)
        (λ (f : goes count ≡ u). subst (λ (x : Claims). Ascends x.indexes) f tt)
        (at_snoc (set s.views id (stays count v)) (goes count) u seat e);
    room = let p = weigh-set (λ (u : Claims). u.left) s.views id v (stays count v) at in
        let q = weigh-append (λ (u : Claims). u.left) (set s.views id (stays count v)) (goes count ∷ []) in
        let t = r.room in
        omega arith;
  }

  pub joins : (id : ℕ) (v : Claims) (other : ℕ) (w : Claims) → Joins {S = S} IsKept id v other w (joined v w) no_claims
  joins id v other w s r at apart there =
      let middle = set s.views id (joined v w) in
      let yours : get_elem? s.views other ≡ some w = sym (set_else s.views id other (joined v w) apart) ∙ there in
      let both = ascends_merged v.indexes w.indexes (r.ascending id v at) (r.ascending other w yours) (λ x.
      let p = weigh-two (λ (u : Claims). times x u.indexes) s.views id other v w (λ e. apart (sym e)) at yours in
      let q = r.together (is x) in
      let t = at_most_once 0 (get_or s.words 0 0) x in
      omega arith) in
      record {
        wide = r.wide;
        together = λ h. let p = weigh-set (λ (u : Claims). weigh h u.indexes) s.views id v (joined v w) at in
            let q = weigh-set (λ (u : Claims). weigh h u.indexes) middle other w no_claims there in
            let t = weigh-merged h v.indexes w.indexes in
            let u = r.together h in
            omega arith;
        ascending = each_set middle other no_claims tt (each_set s.views id (joined v w) both r.ascending);
        room = let p = weigh-set (λ (u : Claims). u.left) s.views id v (joined v w) at in
            let q = weigh-set (λ (u : Claims). u.left) middle other w no_claims there in
            let u = r.room in
            omega arith;
      }

-- what a claim tells
pub tells : {S : Type 0} (bag : ℕ) (m : Me S Claims) (n : ℕ) (m' : Me S Claims) (answer : Option ℕ) → Takes (step 0 0 1 0 none) m n m' → answer ≡ cond (nat_lt n bag) (Some n) None → HasClaimed bag m.0 m'.0 answer
tells {S} bag m n m' answer (after, fits, under, all) is = let w = ap (λ (x : Me S Claims). x.0) after in record {
  number = n;
  after = w;
  answer_is = is;
  over = under;
  whole = λ g. ap (λ (x : Claims). x.indexes) w ∙ (ap (λ (xs : List ℕ). xs ++ n ∷ []) (all g) ∙ sym (below_snoc n));
}
