-- Weights of lists, and of lists of which one element changes.
use Rattle.std.proofs.Common.{◌≡◌, ℕ, zero, suc, ◌+◌, ◌≤◌, List, [], ◌∷◌, ◌++◌, length, set, sym, ap, arith}
use mathlib.Core.Option.{some, some-injective, some-ne-none}
use lib.ListN.{get_elem?}
use Rattle.claims.specs.Claims.{weigh}

module _ {X : Type 0} (h : X → ℕ) where
  pub weigh-append : (xs ys : List X) → weigh h (xs ++ ys) ≡ weigh h xs + weigh h ys
  weigh-append [] ys = omega arith
  weigh-append (x ∷ xs) ys = let p = weigh-append xs ys in omega arith

  pub weigh-set : (xs : List X) (i : ℕ) (x y : X) → get_elem? xs i ≡ some x → weigh h (set xs i y) + h x ≡ weigh h xs + h y
  weigh-set [] i x y e = absurd (some-ne-none x (sym e))
  weigh-set (z ∷ zs) zero x y e = let p = ap h (some-injective z x e) in omega arith
  weigh-set (z ∷ zs) (suc i) x y e = let p = weigh-set zs i x y e in omega arith

  pub weigh-at : (xs : List X) (i : ℕ) (x : X) → get_elem? xs i ≡ some x → h x ≤ weigh h xs
  weigh-at [] i x e = absurd (some-ne-none x (sym e))
  weigh-at (z ∷ zs) zero x e = let p = ap h (some-injective z x e) in omega arith
  weigh-at (z ∷ zs) (suc i) x e = let p = weigh-at zs i x e in omega arith

  -- two elements at different places
  pub weigh-two : (xs : List X) (i j : ℕ) (x y : X) → (i ≡ j → ⊥) → get_elem? xs i ≡ some x → get_elem? xs j ≡ some y → h x + h y ≤ weigh h xs
  weigh-two [] i j x y n e f = absurd (some-ne-none x (sym e))
  weigh-two (z ∷ zs) zero zero x y n e f = absurd (n (omega arith))
  weigh-two (z ∷ zs) zero (suc j) x y n e f = let p = ap h (some-injective z x e) in let q = weigh-at zs j y f in omega arith
  weigh-two (z ∷ zs) (suc i) zero x y n e f = let p = ap h (some-injective z y f) in let q = weigh-at zs i x e in omega arith
  weigh-two (z ∷ zs) (suc i) (suc j) x y n e f = let p = weigh-two zs i j x y (λ k. n (ap suc k)) e f in omega arith

  -- two weights added up
  pub weigh-both : (g : X → ℕ) (xs : List X) → weigh (λ x. h x + g x) xs ≡ weigh h xs + weigh g xs
  weigh-both g [] = omega arith
  weigh-both g (x ∷ xs) = let p = weigh-both g xs in omega arith

  weigh-none : (g : X → ℕ) (xs : List X) → ((x : X) → g x ≡ 0 → h x ≡ 0) → weigh g xs ≡ 0 → weigh h xs ≡ 0
  weigh-none g [] k e = omega arith
  weigh-none g (x ∷ xs) k e = let p = k x (omega arith) in let q = weigh-none g xs k (omega arith) in omega arith

  -- one element has all the weight
  pub weigh-only : (g : X → ℕ) (xs : List X) (i : ℕ) (x : X) → get_elem? xs i ≡ some x → ((x : X) → g x ≡ 0 → h x ≡ 0) → weigh g xs ≤ g x → weigh h xs ≡ h x
  weigh-only g [] i x e k l = absurd (some-ne-none x (sym e))
  weigh-only g (z ∷ zs) zero x e k l =
      let p = ap h (some-injective z x e) in let q = ap g (some-injective z x e) in let r = weigh-none g zs k (omega arith) in omega arith
  weigh-only g (z ∷ zs) (suc i) x e k l =
      let at = get_weight zs i x e in let p = k z (omega arith) in let q = weigh-only g zs i x e k (omega arith) in omega arith
    where
      get_weight : (xs : List X) (i : ℕ) (x : X) → get_elem? xs i ≡ some x → g x ≤ weigh g xs
      get_weight [] i x e = absurd (some-ne-none x (sym e))
      get_weight (z ∷ zs) zero x e = let p = ap g (some-injective z x e) in omega arith
      get_weight (z ∷ zs) (suc i) x e = let p = get_weight zs i x e in omega arith

pub weigh-ones : {X : Type 0} (xs : List X) → weigh (λ _. 1) xs ≡ length xs
weigh-ones [] = omega arith
weigh-ones (x ∷ xs) = let p = weigh-ones xs in omega arith
