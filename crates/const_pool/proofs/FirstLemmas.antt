-- The place of the first that passes.
use Rattle.std.proofs.Common.{◌≡◌, ℕ, zero, suc, ◌+◌, ◌<◌, Bool, true, false, cond, List, [], ◌∷◌, ◌++◌, length, get_or, take, ltb, Option, Some, None, refl, sym, ap, ◌∙◌, arith}
use Rattle.std.specs.Prelude.{option_map, slice_get, position, nat_lt, IfSome}
use Rattle.std.specs.List.{position_or_len}
use Rattle.std.proofs.lemmas.List.{take_more, length-take-le}
use Rattle.std.proofs.lemmas.Option.{slice_get_within}
use Rattle.std.proofs.lemmas.Grind.{common_steps}
use Rattle.std.proofs.lemmas.Bool.Decides.{nat_tests}
use Rattle.const_pool.specs.Firsts.{first, or_at}

lt-suc : (a b : ℕ) → nat_lt (suc a) (suc b) ≡ nat_lt a b
lt-suc a b = grind (arith, common_steps, nat_tests)

module _ {X : Type 0} (p : X → Bool) where
  later : (o : Option ℕ) (b : Bool) (k : ℕ) → option_map suc (or_at o b k) ≡ or_at (option_map suc o) b (suc k)
  later (Some n) b k = refl
  later None true k = refl
  later None false k = refl

  pub first_push : (xs : List X) (x : X) → first p (xs ++ x ∷ []) ≡ or_at (first p xs) (p x) (length xs)
  first_push [] x = refl
  first_push (y ∷ ys) x =
      elim (p y) as (λ b. cond b (Some 0) (option_map suc (first p (ys ++ x ∷ []))) ≡ or_at (cond b (Some 0) (option_map suc (first p ys))) (p x) (suc (length ys))) [
        | true ↦ refl
        | false ↦ ap (option_map suc) (first_push ys x) ∙ later (first p ys) (p x) (length ys)
      ]

  -- a place that is the first stays so, whatever follows
  pub first_stays : (xs ys : List X) (j : ℕ) → first p xs ≡ Some j → first p (xs ++ ys) ≡ Some j
  first_stays [] ys j h = absurd cc
  first_stays (x ∷ xs) ys j h = by_test (p x) refl (λ k e. first_stays xs ys k e) where
    by_rest : (o : Option ℕ) → first p xs ≡ o → option_map suc o ≡ Some j → ((k : ℕ) → first p xs ≡ Some k → first p (xs ++ ys) ≡ Some k) → option_map suc (first p (xs ++ ys)) ≡ Some j
    by_rest None e g rest = absurd cc
    by_rest (Some k) e g rest = ap (option_map suc) (rest k e) ∙ g

    by_test : (b : Bool) → p x ≡ b → ((k : ℕ) → first p xs ≡ Some k → first p (xs ++ ys) ≡ Some k) → first p (x ∷ (xs ++ ys)) ≡ Some j
    by_test true e rest = rw e (rw e at h)
    by_test false e rest = rw e (by_rest (first p xs) refl (rw e at h) rest)

  -- where none passes before
  pub first_behind : (xs ys : List X) → first p xs ≡ None → first p (xs ++ ys) ≡ option_map (λ n. length xs + n) (first p ys)
  first_behind [] ys h = as_it_is (first p ys) where
    as_it_is : (o : Option ℕ) → o ≡ option_map (λ n. 0 + n) o
    as_it_is None = refl
    as_it_is (Some n) = ap Some (omega arith)
  first_behind (x ∷ xs) ys h = by_test (p x) refl (λ e. first_behind xs ys e) where
    one_more : (o : Option ℕ) → option_map suc (option_map (λ n. length xs + n) o) ≡ option_map (λ n. suc (length xs) + n) o
    one_more None = refl
    one_more (Some n) = ap Some (omega arith)

    by_rest : (o : Option ℕ) → first p xs ≡ o → option_map suc o ≡ None → (first p xs ≡ None → first p (xs ++ ys) ≡ option_map (λ n. length xs + n) (first p ys)) → option_map suc (first p (xs ++ ys)) ≡ option_map (λ n. suc (length xs) + n) (first p ys)
    by_rest None e g rest = ap (option_map suc) (rest e) ∙ one_more (first p ys)
    by_rest (Some k) e g rest = absurd cc

    by_test : (b : Bool) → p x ≡ b → (first p xs ≡ None → first p (xs ++ ys) ≡ option_map (λ n. length xs + n) (first p ys)) → first p (x ∷ (xs ++ ys)) ≡ option_map (λ n. suc (length xs) + n) (first p ys)
    by_test true e rest = let g : Some 0 ≡ None = rw e at h in absurd cc
    by_test false e rest = rw e (by_rest (first p xs) refl (rw e at h) rest)

  -- what stands at the place
  pub first_stands : (xs : List X) (j : ℕ) → first p xs ≡ Some j → (x : X) × (slice_get xs j ≡ Some x) × (p x ≡ true)
  first_stands [] j h = absurd cc
  first_stands (x ∷ xs) j h = by_test (p x) refl (λ k e. first_stands xs k e) where
    by_rest : (o : Option ℕ) → first p xs ≡ o → option_map suc o ≡ Some j → ((k : ℕ) → first p xs ≡ Some k → (y : X) × (slice_get xs k ≡ Some y) × (p y ≡ true)) → (y : X) × (slice_get (x ∷ xs) j ≡ Some y) × (p y ≡ true)
    by_rest None e g rest = absurd cc
    by_rest (Some k) e g rest = let s = rest k e in let n : suc k ≡ j = cc in (s.0, rw (← n) s.1, s.2)

    by_test : (b : Bool) → p x ≡ b → ((k : ℕ) → first p xs ≡ Some k → (y : X) × (slice_get xs k ≡ Some y) × (p y ≡ true)) → (y : X) × (slice_get (x ∷ xs) j ≡ Some y) × (p y ≡ true)
    by_test true e rest = let g : Some 0 ≡ Some j = rw e at h in let n : 0 ≡ j = cc in (x, rw (← n) refl, e)
    by_test false e rest = by_rest (first p xs) refl (rw e at h) rest

  -- where one passes, there is a first
  pub first_is : (xs : List X) (i : ℕ) (x : X) → slice_get xs i ≡ Some x → p x ≡ true → (j : ℕ) × (first p xs ≡ Some j)
  first_is [] i x s h = absurd cc
  first_is (y ∷ xs) zero x s h = let one : y ≡ x = cc in (0, rw (one, h) refl)
  first_is (y ∷ xs) (suc i) x s h = by_test (p y) refl (first_is xs i x s h) where
    by_test : (b : Bool) → p y ≡ b → (j : ℕ) × (first p xs ≡ Some j) → (j : ℕ) × (first p (y ∷ xs) ≡ Some j)
    by_test true e f = (0, rw e refl)
    by_test false e f = (suc f.0, rw (e, f.1) refl)

  pub first_none : (xs : List X) → ((x : X) → p x ≡ false) → first p xs ≡ None
  first_none [] h = refl
  first_none (x ∷ xs) h = rw (h x, first_none xs h) refl

  pub position_first : (xs : List X) → position p xs ≡ first p xs
  position_first [] = refl
  position_first (x ∷ xs) = by_test (p x) refl (position_first xs) where
    moved : (b : Bool) (n : ℕ) → cond b (Some (suc n)) None ≡ option_map suc (cond b (Some n) None)
    moved true n = refl
    moved false n = refl

    by_test : (b : Bool) → p x ≡ b → position p xs ≡ first p xs → position p (x ∷ xs) ≡ first p (x ∷ xs)
    by_test true e rest = rw e (grind (arith, common_steps))
    by_test false e rest =
        let one : position_or_len p (x ∷ xs) ≡ suc (position_or_len p xs) = rw e (omega arith) in
        rw (one, e) (ap (λ b. cond b (Some (suc (position_or_len p xs))) None) (lt-suc (position_or_len p xs) (length xs)) ∙ moved (ltb (position_or_len p xs) (length xs)) (position_or_len p xs) ∙ ap (option_map suc) rest)

-- tests that agree on the elements have one first
pub first_congr : {X : Type 0} (p q : X → Bool) (xs : List X) → ((i : ℕ) (x : X) → slice_get xs i ≡ Some x → p x ≡ q x) → first p xs ≡ first q xs
first_congr p q [] h = refl
first_congr p q (x ∷ xs) h = rw (h 0 x refl, first_congr p q xs (λ i y s. h (suc i) y s)) refl

-- what is known of the entries up to one more
pub first_more : {X : Type 0} (p : X → Bool) (xs : List X) (i : ℕ) (x : X) (known next : Option ℕ) → i < length xs → x ≡ get_or xs i x → known ≡ first p (take i xs) → next ≡ or_at known (p x) i → next ≡ first p (take (i + 1) xs)
first_more {X = X} p xs i x known next below is so_far h =
    let len : length (take i xs) ≡ i = length-take-le i xs (omega arith) in
    let more : take (i + 1) xs ≡ take i xs ++ x ∷ [] = take_more xs i x below ∙ ap (λ (y : X). take i xs ++ y ∷ []) (sym is) in
    h ∙ ap (λ o. or_at o (p x) i) so_far ∙ sym (ap (first p) more ∙ first_push p (take i xs) x ∙ ap (or_at (first p (take i xs)) (p x)) len)

-- a position is one of the list
pub position_inside : {X : Type 0} (p : X → Bool) (xs : List X) (o : Option ℕ) → o ≡ position p xs → IfSome o (λ i. i < length xs)
position_inside p xs None h = tt
position_inside {X = X} p xs (Some i) h = let s = first_stands p xs i (sym (position_first p xs) ∙ sym h) in slice_get_within xs i s.0 s.1
