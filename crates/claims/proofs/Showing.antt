-- What the rule says of numbers.
use Rattle.std.proofs.Common.{◌≡◌, ℕ, zero, suc, ◌+◌, ◌<◌, ◌≤◌, List, [], ◌∷◌, length, get_or, refl, lt_of_not-le, arith}
use mathlib.Core.Option.{some}
use mathlib.Core.Logic.{dite}
use native.Mathlib.Decide.{ℕ_discrete}
use lib.ListN.{get_elem?}
use Rattle.std.specs.Prelude.{Contains}
use Rattle.std.specs.List.{range_with_len}
use Rattle.claims.specs.Claims.{Claims, Rule, Shows, weigh}
use Rattle.claims.proofs.Weights.{weigh-at, weigh-two}
use Rattle.claims.proofs.Numbers.{is, is_here, is_else, times, none_behind, at_most_once}

-- a number stands in a list where it stands there once or more
there : (x : ℕ) (ys : List ℕ) (k : ℕ) → k < length ys → get_or ys k x ≡ x → 1 ≤ times x ys
there x [] k l e = absurd (omega arith)
there x (y ∷ ys) zero l e = let p = is_here x y e in omega arith
there x (y ∷ ys) (suc k) l e = let p = there x ys k (omega arith) e in omega arith

found : (x : ℕ) (ys : List ℕ) → 1 ≤ times x ys → Contains ys x
found x [] l = absurd (omega arith)
found x (y ∷ ys) l = dite (ℕ_discrete y x)
    (λ e. (0, omega arith, e))
    (λ n. let p = is_else x y n in let q = found x ys (omega arith) in (suc q.0, (let r = q.1 in omega arith), q.2))

-- a number that stands in the lists together stands in one of them
somewhere : (x : ℕ) (views : List Claims) → 1 ≤ weigh (λ (v : Claims). times x v.indexes) views
    → (i : ℕ) × (v : Claims) × (get_elem? views i ≡ some v) × (1 ≤ times x v.indexes)
somewhere x [] l = absurd (omega arith)
somewhere x (v ∷ vs) l = dite (ℕ_discrete (times x v.indexes) 0)
    (λ z. let q = somewhere x vs (omega arith) in (suc q.0, q.1, q.2, q.3))
    (λ n. (0, v, refl, omega arith))

-- each of the numbers from a on is there
each_once : (a n x : ℕ) → a ≤ x → x < a + n → 1 ≤ times x (range_with_len a n)
each_once a zero x l m = absurd (omega arith)
each_once a (suc n) x l m = dite (ℕ_discrete a x)
    (λ e. let p = is_here x a e in omega arith)
    (λ d. let q = each_once (a + 1) n x (omega arith) (omega arith) in omega arith)

module _ (words : List ℕ) (views : List Claims) (r : Rule words views) where
  abbrev word : ℕ
  word = get_or words 0 0

  pub shows : Shows words views
  shows = record {
    disjoint = λ i j v w x e f a b. dite (ℕ_discrete i j) (λ h. h) (λ n. absurd (
        let p = weigh-two (λ (u : Claims). times x u.indexes) views i j v w n e f in
        let q = r.together (is x) in
        let s = at_most_once 0 word x in
        let t = there x v.indexes a.0 a.1 a.2 in
        let u = there x w.indexes b.0 b.1 b.2 in
        omega arith));
    under = λ i v x e a. lt_of_not-le (λ m.
        let p = weigh-at (λ (u : Claims). times x u.indexes) views i v e in
        let q = r.together (is x) in
        let s = none_behind 0 word x (omega arith) in
        let t = there x v.indexes a.0 a.1 a.2 in
        omega arith);
    all = λ x l.
        let q = r.together (is x) in
        let s = each_once 0 word x (omega arith) (omega arith) in
        let t = somewhere x views (omega arith) in
        (t.0, t.1, t.2, found x t.1.indexes t.3);
  }
