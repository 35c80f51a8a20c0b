-- Ascending lists.
use Rattle.std.proofs.Common.{◌≡◌, ℕ, zero, suc, ◌+◌, ◌<◌, ◌≤◌, List, [], ◌∷◌, ◌++◌, Bool, true, false, cond, nat_lt, refl, ap, ◌∙◌, ltb-true, ltb-false, arith}
use Rattle.std.specs.List.{AllByRecursion, range_with_len}
use Rattle.claims.specs.Claims.{weigh, Ascends, put_in, merged}
use Rattle.claims.proofs.Numbers.{is, is_here, is_else, times, none_before, all_differ}

all_append : (P : ℕ → Type 0) (xs ys : List ℕ) → AllByRecursion P xs → AllByRecursion P ys → AllByRecursion P (xs ++ ys)
all_append P [] ys a b = b
all_append P (x ∷ xs) ys a b = (a.0, all_append P xs ys a.1 b)

all_imply : (P Q : ℕ → Type 0) (xs : List ℕ) → ((x : ℕ) → P x → Q x) → AllByRecursion P xs → AllByRecursion Q xs
all_imply P Q [] h a = tt
all_imply P Q (x ∷ xs) h a = (h x a.0, all_imply P Q xs h a.1)

-- a number that is over all others, put behind them
pub ascends_snoc : (xs : List ℕ) (n : ℕ) → Ascends xs → AllByRecursion (λ i. i < n) xs → Ascends (xs ++ n ∷ [])
ascends_snoc [] n a l = (tt, tt)
ascends_snoc (x ∷ xs) n a l = (all_append (λ y. x < y) xs (n ∷ []) a.0 (l.0, tt), ascends_snoc xs n a.1 l.1)

by_test : (P : List ℕ → Type 0) (x y : ℕ) (ps qs : List ℕ) → (x < y → P ps) → (y ≤ x → P qs) → P (cond (nat_lt x y) ps qs)
by_test P x y ps qs under over = go (nat_lt x y) refl
  where
    go : (b : Bool) → nat_lt x y ≡ b → P (cond b ps qs)
    go true e = under (ltb-true x y e)
    go false e = over (ltb-false x y e)

all_put : (P : ℕ → Type 0) (x : ℕ) (ys : List ℕ) → P x → AllByRecursion P ys → AllByRecursion P (put_in x ys)
all_put P x [] p a = (p, tt)
all_put P x (y ∷ ys) p a = by_test (AllByRecursion P) x y (x ∷ (y ∷ ys)) (y ∷ put_in x ys) (λ _. (p, a)) (λ _. (a.0, all_put P x ys p a.1))

ascends_put : (x : ℕ) (ys : List ℕ) → Ascends ys → AllByRecursion (λ y. y ≡ x → ⊥) ys → Ascends (put_in x ys)
ascends_put x [] a n = (tt, tt)
ascends_put x (y ∷ ys) a n = by_test Ascends x y (x ∷ (y ∷ ys)) (y ∷ put_in x ys)
    (λ l. ((l, all_imply (λ z. y < z) (λ z. x < z) ys (λ z m. omega arith) a.0), a))
    (λ l. (all_put (λ z. y < z) x ys (let ne = n.0 in omega arith) a.0, ascends_put x ys a.1 n.1))

weigh-put : (h : ℕ → ℕ) (x : ℕ) (ys : List ℕ) → weigh h (put_in x ys) ≡ h x + weigh h ys
weigh-put h x [] = refl
weigh-put h x (y ∷ ys) = by_test (λ (zs : List ℕ). weigh h zs ≡ h x + (h y + weigh h ys)) x y (x ∷ (y ∷ ys)) (y ∷ put_in x ys) (λ _. refl)
    (λ _. let p = weigh-put h x ys in omega arith)

pub weigh-merged : (h : ℕ → ℕ) (xs ys : List ℕ) → weigh h (merged xs ys) ≡ weigh h xs + weigh h ys
weigh-merged h xs [] = omega arith
weigh-merged h xs (y ∷ ys) = let p = weigh-put h y (merged xs ys) in let q = weigh-merged h xs ys in omega arith

-- two ascending lists that share no number
pub ascends_merged : (xs ys : List ℕ) → Ascends xs → Ascends ys → ((x : ℕ) → times x xs + times x ys ≤ 1) → Ascends (merged xs ys)
ascends_merged xs [] a b once = a
ascends_merged xs (y ∷ ys) a b once = ascends_put y (merged xs ys)
    (ascends_merged xs ys a b.1 (λ x. let p = once x in omega arith))
    (all_differ y (merged xs ys) (let p = once y in let q = is_here y y refl in let r = weigh-merged (is y) xs ys in omega arith))

-- an ascending list that weighs what the numbers from a on do, however they are weighed, is those numbers
pub ascending_range : (a n : ℕ) (xs : List ℕ) → Ascends xs → ((h : ℕ → ℕ) → weigh h xs ≡ weigh h (range_with_len a n)) → xs ≡ range_with_len a n
ascending_range a zero [] up same = refl
ascending_range a zero (x ∷ xs) up same = let p = same (λ _. 1) in absurd (omega arith)
ascending_range a (suc n) [] up same = let p = same (λ _. 1) in absurd (omega arith)
ascending_range a (suc n) (x ∷ xs) up same =
    let first : x ≡ a = least in
    ap (λ (y : ℕ). y ∷ xs) first ∙ ap (λ (ys : List ℕ). a ∷ ys) (ascending_range (a + 1) n xs up.1 (λ h. let p = same h in let q = ap h first in omega arith))
  where
    not_under : x < a → ⊥
    not_under l = let p = same (is x) in let q = is_here x x refl in let r = none_before a (suc n) x l in omega arith

    absent : a < x → (ys : List ℕ) → AllByRecursion (λ y. x < y) ys → times a ys ≡ 0
    absent l [] k = refl
    absent l (y ∷ ys) k = let m = k.0 in let p = is_else a y (λ e. omega arith) in let q = absent l ys k.1 in omega arith

    not_over : a < x → ⊥
    not_over l = let p = same (is a) in let q = is_here a a refl in let r = is_else a x (λ e. omega arith) in let s = absent l xs up.0 in omega arith

    least : x ≡ a
    least = omega (arith, not_under, not_over)
