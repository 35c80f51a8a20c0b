-- What is left of a list behind so many items.
use Rattle.std.proofs.Common.{◌≡◌, ℕ, zero, suc, ◌-◌, ◌<◌, ◌≤◌, length, List, [], ◌∷◌, drop, ◌++◌, ◌∙◌, take, slice_get, Some, None, refl, sym, ap, arith, append_assoc}
use Rattle.std.proofs.lemmas.List.{take-append-drop}

-- what is left behind a part, and within one
pub under_part : {X : Type 0} → (n : ℕ) (xs ys : List X) → length xs ≤ n → drop (n - length xs) ys ≡ drop n (xs ++ ys)
under_part n [] ys h = let e : n - 0 ≡ n = omega arith in ap (λ (n : ℕ). drop n ys) e
under_part zero (x ∷ xs) ys h = absurd (omega (arith, h))
under_part (suc n) (x ∷ xs) ys h =
    let e : suc n - length (x ∷ xs) ≡ n - length xs = omega arith in
    ap (λ (n : ℕ). drop n ys) e ∙ under_part n xs ys (omega (arith, h))

pub in_part : {X : Type 0} → (n : ℕ) (xs ys : List X) → n < length xs → drop n xs ++ ys ≡ drop n (xs ++ ys)
in_part n [] ys h = absurd (omega (arith, h))
in_part zero (x ∷ xs) ys h = refl
in_part (suc n) (x ∷ xs) ys h = in_part n xs ys (omega (arith, h))

-- the same in the halves of a list
pub in_right : {X : Type 0} → (n h : ℕ) (xs l r : List X) → l ≡ take h xs → r ≡ drop h xs → length l ≤ n → drop (n - length l) r ≡ drop n xs
in_right n h xs l r e f g =
    let x : l ++ r ≡ xs = rw (e, f) (take-append-drop h xs) in
    under_part n l r g ∙ ap (drop n) x

pub in_left : {X : Type 0} → (n h : ℕ) (xs l r u : List X) → l ≡ take h xs → r ≡ drop h xs → n < length l → drop n l ++ (r ++ u) ≡ drop n xs ++ u
in_left n h xs l r u e f g =
    let x : l ++ r ≡ xs = rw (e, f) (take-append-drop h xs) in
    sym (append_assoc (drop n l) r u) ∙ ap (λ (s : List _). s ++ u) (in_part n l r g ∙ ap (drop n) x)

-- the topmost item, and what is under it
pub top_is : {X : Type 0} → (xs s u : List X) (t v : X) → s ≡ xs → Some t ≡ slice_get s 0 → v ≡ t → u ≡ drop 1 s → xs ≡ v ∷ u
top_is xs [] u t v e f g h = cc
top_is xs (x ∷ s) u t v e f g h = cc

pub no_top : {X : Type 0} → (xs s : List X) → s ≡ xs → None ≡ slice_get s 0 → xs ≡ []
no_top xs [] e f = sym e
no_top xs (x ∷ s) e f = cc
