-- What the rule tells of one pass.
use Rattle.std.proofs.Common.{◌≡◌, ℕ, ◌+◌, ◌<◌, ◌≤◌, List, [], ◌∷◌, get_or, lt_of_not-le, arith}
use mathlib.Core.Option.{some}
use lib.ListN.{get_elem?}
use Rattle.std.specs.List.{AllByRecursion}
use Rattle.claims.specs.Claims.{Claims, Rule, weigh, below, IsGathered}
use Rattle.claims.proofs.Weights.{weigh-at, weigh-both, weigh-only, weigh-ones}
use Rattle.claims.proofs.Numbers.{is, times, none_behind, all_there, weigh-range_ones}
use Rattle.claims.proofs.Ascending.{ascending_range}

module _ (words : List ℕ) (views : List Claims) (r : Rule words views) (me : ℕ) (v : Claims) (at : get_elem? views me ≡ some v) where
  abbrev word : ℕ
  word = get_or words 0 0

  -- the word is over all that the pass claimed
  pub over : AllByRecursion (λ i. i < word) v.indexes
  over = all_there (λ i. i < word) v.indexes (λ x l.
      let p = weigh-at (λ (u : Claims). times x u.indexes) views me v at in
      let q = r.together (is x) in
      lt_of_not-le (λ m. let b = none_behind 0 word x (omega arith) in omega arith))

  -- where a pass has as many claims as there are in all, made or not, no other has one
  pub gathered : IsGathered v → v.indexes ≡ below word
  gathered all = ascending_range 0 word v.indexes (r.ascending me v at) (λ h. same h)
    where
      nothing : (h : ℕ → ℕ) (xs : List ℕ) → weigh (λ _. 1) xs ≡ 0 → weigh h xs ≡ 0
      nothing h [] e = omega arith
      nothing h (x ∷ xs) e = absurd (omega arith)

      room : weigh (λ (u : Claims). weigh (λ _. 1) u.indexes + u.left) views ≤ weigh (λ _. 1) v.indexes + v.left
      room = let p = weigh-both (λ (u : Claims). weigh (λ _. 1) u.indexes) (λ (u : Claims). u.left) views in
          let q = r.together (λ _. 1) in
          let s = weigh-range_ones 0 word in
          let t = weigh-ones v.indexes in
          let u = r.room in
          omega arith

      same : (h : ℕ → ℕ) → weigh h v.indexes ≡ weigh h (below word)
      same h = let p = weigh-only (λ (u : Claims). weigh h u.indexes) (λ (u : Claims). weigh (λ _. 1) u.indexes + u.left) views me v at
          (λ u e. nothing h u.indexes (omega arith)) room in
          let q = r.together h in
          omega arith
