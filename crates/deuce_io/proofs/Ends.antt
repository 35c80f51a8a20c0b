-- How calls of a folder in memory end.
use Rattle.std.proofs.Common.{◌≡◌, ◌≤◌, ◌<◌, ◌-◌, ◌^◌, ◌∙◌, ◌⊎◌, inl, inr, ℕ, true, false, eqb, List, [], ◌∷◌, refl, length, get_or, Contains, Some, Result, Ok, Err, ap, sym, subst, arith, rules}
use Rattle.std.specs.Prelude.{IsErrOf, OnOk, OnErr}
use Rattle.std.specs.Result.{IsErrAnd, is_err}
use Rattle.std.proofs.lemmas.Bool.{eqb-true, cases_lt}
use Rattle.deuce_io.specs.Fault.{Rose, next_count}
use Rattle.deuce_io.specs.declared.end.IoEnd.{IoEnd}
use Rattle.deuce_io.specs.declared.end.IoEnd.TheVariants.{Failed, NoMemory}

-- a count is no less than itself
pub no_less : (n : ℕ) → n ≤ n
no_less n = omega arith

-- what is told is one
pub one_of : {X : Type 0} (x y : X) → Some x ≡ Some y → x ≡ y
one_of x y same = cc

-- a count after one more has risen
pub rises : (before now : ℕ) → now ≡ next_count before → Rose before now
rises before now is = go (cases_lt before (2 ^ 64 - 1))
  where
    go : (before < 2 ^ 64 - 1) ⊎ (2 ^ 64 - 1 ≤ before) → Rose before now
    go (inl less) = inl (omega arith)
    go (inr last) = inr (omega arith)

-- a list whose length is 0 has no element
pub none_left : (xs : List ℕ) → true ≡ eqb (length xs) 0 → xs ≡ []
none_left [] none = refl
none_left (x ∷ xs) none = let zero : length (x ∷ xs) ≡ 0 = eqb-true (length (x ∷ xs)) 0 (sym none) in absurd (omega (arith, zero))

-- and one whose length isn't 0 has one
pub not_empty : {X : Type 0} (xs : List X) → false ≡ eqb (length xs) 0 → xs ≡ [] → ⊥
not_empty {X} xs other none = let zero : eqb (length xs) 0 ≡ true = ap (λ (l : List X). eqb (length l) 0) none in let differ : false ≡ true = other ∙ zero in absurd (cc)

-- what an end says holds at it
module _ {T E : Type 0} where
  pub at_err : (r : Result T E) (A : Type 0) → true ≡ is_err r → OnErr r A → A
  at_err (Ok x) A is h = absurd (cc)
  at_err (Err e) A is h = h

  pub at_ok : (r : Result T E) (A : Type 0) → false ≡ is_err r → OnOk r A → A
  at_ok (Ok x) A is h = h
  at_ok (Err e) A is h = absurd (cc)

module _ {T : Type 0} where
  -- an answer is no failure of the outside, and want of memory is none
  pub answered : (x : T) → IsErrOf {T = T} {E = IoEnd} (Ok x) Failed → ⊥
  answered x failed = cc

  pub no_shortage : (x : T) → IsErrOf {T = T} {E = IoEnd} (Ok x) NoMemory → ⊥
  no_shortage x short = cc

  pub fault : IsErrOf {T = T} {E = IoEnd} (Err Failed) NoMemory → ⊥
  fault short = cc

  pub short : IsErrOf {T = T} {E = IoEnd} (Err NoMemory) Failed → ⊥
  short failed = cc

  -- the end of a failure
  pub failure : (e : IoEnd) → IsErrOf {T = T} {E = IoEnd} (Err e) Failed → e ≡ Failed
  failure e failed = cc

  -- what a `?` hands on where memory ran out
  pub ran_out : (r : Result T IoEnd) → IsErrAnd r (λ e. e ≡ NoMemory) → r ≡ Err NoMemory
  ran_out (Ok x) h = absurd h
  ran_out (Err e) h = ap Err h

-- a number stands among the numbers of the calls that fail
pub stands_in : (numbers given : List ℕ) (number call : ℕ) → given ≡ numbers → call ≡ number
    → (k : ℕ) × (k < length given) × ((d : ℕ) → eqb (get_or given k d) call ≡ true) → Contains numbers number
stands_in numbers given number call same is (k, lt, at) =
    subst (λ (xs : List ℕ). Contains xs number) same (k, lt, eqb-true (get_or given k number) number (subst (λ (n : ℕ). eqb (get_or given k number) n ≡ true) is (at number)))

-- and it stands there not
pub stands_not : (numbers given : List ℕ) (number call : ℕ) → given ≡ numbers → call ≡ number
    → ((k : ℕ) → (d : ℕ) → 0 ≤ k → k < length given → eqb (get_or given k d) call ≡ false) → Contains numbers number → ⊥
stands_not numbers given number call same is at among = go (subst (λ (xs : List ℕ). Contains xs number) (sym same) among)
  where
    itself : (n : ℕ) → eqb n n ≡ true
    itself n = search rules

    go : Contains given number → ⊥
    go (k, lt, here) =
        let other : eqb number number ≡ false = ap (λ (n : ℕ). eqb n number) (sym here) ∙ ap (λ (n : ℕ). eqb (get_or given k number) n) (sym is) ∙ at k number (omega arith) lt in
        let differ : true ≡ false = sym (itself number) ∙ other in
        absurd (cc)
