-- How often a number stands in a list, and among the numbers below another.
use Rattle.std.proofs.Common.{◌≡◌, ℕ, zero, suc, ◌+◌, ◌<◌, ◌≤◌, List, [], ◌∷◌, ◌++◌, cond, eqb, ap, ◌∙◌, eq-eqb, ne_eqb, arith}
use mathlib.Core.Logic.{dite}
use native.Mathlib.Decide.{ℕ_discrete}
use Rattle.std.specs.List.{AllByRecursion, range_with_len}
use Rattle.claims.specs.Claims.{weigh, below}
use Rattle.claims.proofs.Weights.{weigh-append}

-- 1 where a number is x
abbrev pub is : ℕ → ℕ → ℕ
is x y = cond (eqb y x) 1 0

pub is_here : (x y : ℕ) → y ≡ x → is x y ≡ 1
is_here x y e = rw (eq-eqb y x e) (omega arith)

pub is_else : (x y : ℕ) → (y ≡ x → ⊥) → is x y ≡ 0
is_else x y n = rw (ne_eqb y x n) (omega arith)

-- how often x stands in a list
abbrev pub times : ℕ → List ℕ → ℕ
times x ys = weigh (is x) ys

pub none_before : (a n x : ℕ) → x < a → times x (range_with_len a n) ≡ 0
none_before a zero x l = omega arith
none_before a (suc n) x l = let p = is_else x a (λ e. omega arith) in let q = none_before (a + 1) n x (omega arith) in omega arith

pub none_behind : (a n x : ℕ) → a + n ≤ x → times x (range_with_len a n) ≡ 0
none_behind a zero x l = omega arith
none_behind a (suc n) x l = let p = is_else x a (λ e. omega arith) in let q = none_behind (a + 1) n x (omega arith) in omega arith

pub at_most_once : (a n x : ℕ) → times x (range_with_len a n) ≤ 1
at_most_once a zero x = omega arith
at_most_once a (suc n) x = dite (ℕ_discrete a x)
    (λ e. let p = is_here x a e in let q = none_before (a + 1) n x (omega arith) in omega arith)
    (λ m. let p = is_else x a m in let q = at_most_once (a + 1) n x in omega arith)

-- what holds of each number that stands in a list holds of all its elements
pub all_there : (P : ℕ → Type 0) (ys : List ℕ) → ((x : ℕ) → 1 ≤ times x ys → P x) → AllByRecursion P ys
all_there P [] h = tt
all_there P (y ∷ ys) h =
    (h y (let p = is_here y y (omega arith) in omega arith), all_there P ys (λ x l. h x (omega arith)))

-- a number that isn't in a list differs from each element
pub all_differ : (x : ℕ) (ys : List ℕ) → times x ys ≡ 0 → AllByRecursion (λ y. y ≡ x → ⊥) ys
all_differ x ys z = all_there (λ y. y ≡ x → ⊥) ys (λ y l e. let p = ap (λ k. times k ys) e in omega arith)

-- one number more
pub range_snoc : (a n : ℕ) → range_with_len a (suc n) ≡ range_with_len a n ++ (a + n) ∷ []
range_snoc a zero = ap (λ (k : ℕ). k ∷ []) (omega arith)
range_snoc a (suc n) = ap (λ (ks : List ℕ). a ∷ ks) (range_snoc (a + 1) n ∙ ap (λ (k : ℕ). range_with_len (a + 1) n ++ k ∷ []) (omega arith))

pub below_snoc : (n : ℕ) → below (suc n) ≡ below n ++ n ∷ []
below_snoc n = range_snoc 0 n ∙ ap (λ (k : ℕ). below n ++ k ∷ []) (omega arith)

pub weigh-below : (h : ℕ → ℕ) (n : ℕ) → weigh h (below (suc n)) ≡ weigh h (below n) + h n
weigh-below h n = ap (weigh h) (below_snoc n) ∙ (let p = weigh-append h (below n) (n ∷ []) in omega arith)

pub weigh-range_ones : (a n : ℕ) → weigh (λ _. 1) (range_with_len a n) ≡ n
weigh-range_ones a zero = omega arith
weigh-range_ones a (suc n) = let p = weigh-range_ones (a + 1) n in omega arith
