-- Lists in another order, and what a function makes of them.
use Rattle.std.proofs.Common.{◌≡◌, ℕ, ◌+◌, ◌<◌, List, [], ◌∷◌, length, get_or, set, map, Bool, false, refl, sym, ap, ◌∙◌, arith}
use Rattle.std.specs.Prelude.{IsPermutation, swap}
use Rattle.std.specs.List.{All}
use Rattle.std.specs.List.Sorted.{IsSortedBy}
use Rattle.std.proofs.lemmas.List.{get_or-map, map-set, length-map}
use Rattle.std.proofs.lemmas.List.Sorted.{IsPermutation-refl, IsPermutation-swap, IsPermutation-trans, IsPermutation-keeps}

module _ {X Y : Type 0} (f : X → Y) where
  -- an exchange of two elements
  swap-map : (xs : List X) (i j : ℕ) → i < length xs → j < length xs → swap (map f xs) i j ≡ map f (swap xs i j)
  swap-map [] i j p q = refl
  swap-map (x ∷ xs) i j p q =
      let l = x ∷ xs in
      let there = get_or-map f l j x (f x) q in
      let here = get_or-map f l i x (f x) p in
      ap (λ (y : Y). set (set (map f l) i y) j (get_or (map f l) i (f x))) there
      ∙ ap (λ (y : Y). set (set (map f l) i (f (get_or l j x))) j y) here
      ∙ sym (map-set f (set l i (get_or l j x)) j (get_or l i x) ∙ ap (λ (ys : List Y). set ys j (f (get_or l i x))) (map-set f l i (get_or l j x)))

  -- what a list becomes under a function, in another order, is what the list in another order becomes
  pub permuted_before : (xs : List X) (ys : List Y) → IsPermutation (map f xs) ys → (zs : List X) × IsPermutation xs zs × (ys ≡ map f zs)
  permuted_before xs = IsPermutation-keeps (map f xs) (λ l. (zs : List X) × IsPermutation xs zs × (l ≡ map f zs)) (xs, IsPermutation-refl xs, refl) step
    where
      step : (l : List Y) (i j : ℕ) → i < length l → j < length l → (zs : List X) × IsPermutation xs zs × (l ≡ map f zs)
          → (zs : List X) × IsPermutation xs zs × (swap l i j ≡ map f zs)
      step l i j p q (zs, s, e) =
          let long : length l ≡ length zs = ap length e ∙ length-map zs f in
          let p' : i < length zs = omega arith in
          let q' : j < length zs = omega arith in (
            swap zs i j,
            IsPermutation-trans xs zs (swap zs i j) s (IsPermutation-swap zs (swap zs i j) i j p' q' refl),
            ap (λ (k : List Y). swap k i j) e ∙ swap-map zs i j p' q',
          )

  -- a list is sorted where what it becomes is, if the tests answer alike at its elements
  pub sorted_before : (P : X → Type 0) (less : Y → Y → Bool) (lt : X → X → Bool) → ((x y : X) → P x → P y → lt x y ≡ less (f x) (f y)) → (xs : List X)
      → All P xs → IsSortedBy less (map f xs) → IsSortedBy lt xs
  sorted_before P less lt alike xs all sorted k d low high =
      let long : length (map f xs) ≡ length xs = length-map xs f in
      let first : k < length xs = omega arith in
      let given : less (get_or (map f xs) (k + 1) (f d)) (get_or (map f xs) k (f d)) ≡ false = sorted k (f d) low (omega arith) in
      let next = get_or-map f xs (k + 1) d (f d) high in
      let here = get_or-map f xs k d (f d) first in
      alike (get_or xs (k + 1) d) (get_or xs k d) (all (k + 1) d high) (all k d first)
      ∙ sym (ap (λ (y : Y). less y (get_or (map f xs) k (f d))) next ∙ ap (λ (y : Y). less (f (get_or xs (k + 1) d)) y) here)
      ∙ given
