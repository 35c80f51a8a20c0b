-- The claims of workers, put together.
use Rattle.std.proofs.Common.{ltb-false, ◌≡◌, ℕ, zero, suc, ◌+◌, ◌-◌, ◌*◌, ◌^◌, ◌<◌, ◌≤◌, length, Some, None, append_assoc, List, [], ◌∷◌, ◌++◌, Bool, true, false, cond, nat_lt, refl, sym, ◌∙◌, ap, subst, lt-ltb, le-ltb, arith}
use Rattle.std.specs.Prelude.{IsPermutation, filter}
use Rattle.std.specs.List.{range_with_len, flat_map, AllByRecursion}
use Rattle.std.proofs.lemmas.List.{append-nil, length_push, flat_map_more}
use Rattle.std.proofs.lemmas.List.Elements.{filter-append}
use Rattle.std.proofs.lemmas.List.FromFn.{length-range_with_len}
use Rattle.std.proofs.lemmas.List.Sorted.{IsPermutation-refl, IsPermutation-sym, IsPermutation-trans, IsPermutation-cons, IsPermutation-middle, IsPermutation-append_left}
use mathlib.Core.Logic.{dite}
use native.Mathlib.Decide.{ℕ_discrete}
use Rattle.claims.specs.Claims.{Claims, Ascends, put_in, merged, joined, below, IsGathered, HasClaimed}
use Rattle.session.specs.Claimed.{HasTaken}
use Rattle.session.proofs.Claiming.{answered, unanswered}

module _ (p : ℕ → Bool) where
  -- a number more that passes a test or doesn't
  abbrev kept : ℕ → List ℕ → List ℕ
  kept x l = cond (p x) (x ∷ l) l

  kept_both : (x : ℕ) (xs ys : List ℕ) → IsPermutation xs ys → IsPermutation (kept x xs) (kept x ys)
  kept_both x xs ys h = elim (p x) as (λ b. IsPermutation (cond b (x ∷ xs) xs) (cond b (x ∷ ys) ys)) [ true ↦ IsPermutation-cons x xs ys h | false ↦ h ]

  exchanged : (x y : ℕ) (l : List ℕ) → IsPermutation (kept y (kept x l)) (kept x (kept y l))
  exchanged x y l = go (p x) (p y)
    where
      go : (b c : Bool) → IsPermutation (cond c (y ∷ cond b (x ∷ l) l) (cond b (x ∷ l) l)) (cond b (x ∷ cond c (y ∷ l) l) (cond c (y ∷ l) l))
      go true true = IsPermutation-middle (y ∷ []) x l
      go true false = IsPermutation-refl (x ∷ l)
      go false true = IsPermutation-refl (y ∷ l)
      go false false = IsPermutation-refl l

  kept_put : (x : ℕ) (ys : List ℕ) → IsPermutation (filter p (put_in x ys)) (kept x (filter p ys))
  kept_put x [] = IsPermutation-refl (kept x [])
  kept_put x (y ∷ ys) = elim (nat_lt x y) as (λ b. IsPermutation (filter p (cond b (x ∷ (y ∷ ys)) (y ∷ put_in x ys))) (kept x (kept y (filter p ys)))) [
    | true ↦ IsPermutation-refl (kept x (kept y (filter p ys)))
    | false ↦
        IsPermutation-trans (kept y (filter p (put_in x ys))) (kept y (kept x (filter p ys))) (kept x (kept y (filter p ys)))
        (kept_both y (filter p (put_in x ys)) (kept x (filter p ys)) (kept_put x ys)) (exchanged x y (filter p ys))
  ]

  kept_middle : (x : ℕ) (xs ys : List ℕ) → IsPermutation (kept x (xs ++ ys)) (xs ++ kept x ys)
  kept_middle x xs ys = elim (p x) as (λ b. IsPermutation (cond b (x ∷ (xs ++ ys)) (xs ++ ys)) (xs ++ cond b (x ∷ ys) ys)) [
    | true ↦ IsPermutation-sym (xs ++ x ∷ ys) (x ∷ (xs ++ ys)) (IsPermutation-middle xs x ys)
    | false ↦ IsPermutation-refl (xs ++ ys)
  ]

  -- what passes a test of two lists as one
  pub kept_merged : (xs ys : List ℕ) → IsPermutation (filter p (merged xs ys)) (filter p xs ++ filter p ys)
  kept_merged xs [] = subst (λ (l : List ℕ). IsPermutation (filter p xs) l) (sym (append-nil (filter p xs))) (IsPermutation-refl (filter p xs))
  kept_merged xs (y ∷ ys) =
      let both = filter p xs ++ filter p ys in
      IsPermutation-trans (filter p (put_in y (merged xs ys))) (kept y (filter p (merged xs ys))) (filter p xs ++ kept y (filter p ys)) (kept_put y (merged xs ys))
      (IsPermutation-trans (kept y (filter p (merged xs ys))) (kept y both) (filter p xs ++ kept y (filter p ys))
      (kept_both y (filter p (merged xs ys)) both (kept_merged xs ys)) (kept_middle y (filter p xs) (filter p ys)))

-- no number from n on is below it
none_below : (n a k : ℕ) → n ≤ a → filter (λ i. nat_lt i n) (range_with_len a k) ≡ []
none_below n a zero h = refl
none_below n a (suc k) h = rw (le-ltb a n h) (none_below n (a + 1) k (omega arith))

kept_range : (n a k : ℕ) → a ≤ n → n ≤ a + k → filter (λ i. nat_lt i n) (range_with_len a k) ≡ range_with_len a (n - a)
kept_range n a zero low high = let none : n - a ≡ 0 = omega arith in ap (range_with_len a) (sym none)
kept_range n a (suc k) low high = dite (ℕ_discrete a n)
    (λ same. let none : n - a ≡ 0 = omega arith in none_below n a (suc k) (omega arith) ∙ ap (range_with_len a) (sym none))
    (λ other.
    let less : a < n = omega arith in
    let next : suc (n - (a + 1)) ≡ n - a = omega arith in
    rw (lt-ltb a n less) (ap (λ (l : List ℕ). a ∷ l) (kept_range n (a + 1) k (omega arith) (omega arith)) ∙ ap (range_with_len a) next))

-- the numbers below n among those below m
pub kept_below : (n m : ℕ) → n ≤ m → filter (λ i. nat_lt i n) (below m) ≡ below n
kept_below n m h = let same : n - 0 ≡ n = omega arith in kept_range n 0 m (omega arith) (omega arith) ∙ ap below same

-- The claims of a pass, to which all others were joined, and those that it made since, which are indexes of a bag of n.
pub record Resting (n : ℕ) (old v : Claims) (rest : List ℕ) : Type 0 where
  pub gathered : IsGathered v
  pub kept_are : filter (λ i. nat_lt i n) v.indexes ≡ filter (λ i. nat_lt i n) old.indexes ++ rest
  pub few : length v.indexes ≤ 16 * (n + 1)

-- it made none yet
pub resting_first : (n : ℕ) (v : Claims) → IsGathered v → length v.indexes ≤ 16 * (n + 1) → Resting n v v []
resting_first n v gathered few = record { gathered = gathered; kept_are = sym (append-nil (filter (λ i. nat_lt i n) v.indexes)); few = few }

pub resting_more : (n i : ℕ) (old v w : Claims) (rest next : List ℕ) → HasClaimed n v w (Some i) → next ≡ rest ++ i ∷ [] → 0 < v.left → Resting n old v rest
    → Resting n old w next
resting_more n i old v w rest next claim pushed some r =
    let is = answered n claim.number i claim.answer_is in
    let whole : w.indexes ≡ below (suc claim.number) = claim.whole r.gathered in
    let indexes : w.indexes ≡ v.indexes ++ i ∷ [] = ap (λ (u : Claims). u.indexes) claim.after ∙ ap (λ (k : ℕ). v.indexes ++ k ∷ []) is.0 in
    let left : w.left ≡ v.left - 1 = ap (λ (u : Claims). u.left) claim.after in
    let long : length w.indexes ≡ length v.indexes + 1 = ap length indexes ∙ length_push v.indexes i in
    let count : length w.indexes ≡ suc claim.number = ap length whole ∙ length-range_with_len 0 (suc claim.number) in
    let passes : nat_lt i n ≡ true = lt-ltb i n is.1 in
    let one : filter (λ j. nat_lt j n) (i ∷ []) ≡ i ∷ [] = rw passes refl in
    record {
      gathered = let g = r.gathered in omega arith;
      kept_are = ap (filter (λ j. nat_lt j n)) indexes ∙ filter-append (λ j. nat_lt j n) v.indexes (i ∷ [])
          ∙ ap (λ (l : List ℕ). l ++ filter (λ j. nat_lt j n) (i ∷ [])) r.kept_are
          ∙ ap (λ (l : List ℕ). (filter (λ j. nat_lt j n) old.indexes ++ rest) ++ l) one
          ∙ append_assoc (filter (λ j. nat_lt j n) old.indexes) rest (i ∷ [])
          ∙ ap (λ (l : List ℕ). filter (λ j. nat_lt j n) old.indexes ++ l) (sym pushed);
      few = let e = is.0 in let l = is.1 in omega arith;
    }

-- nothing is left
pub resting_end : (n : ℕ) (old v w : Claims) (rest : List ℕ) → HasClaimed n v w None → Resting n old v rest → filter (λ i. nat_lt i n) old.indexes ++ rest ≡ below n
resting_end n old v w rest claim r =
    let none = unanswered n claim.number None refl claim.answer_is in
    let above : n ≤ claim.number = ltb-false claim.number n none in
    let whole : w.indexes ≡ below (suc claim.number) = claim.whole r.gathered in
    let indexes : w.indexes ≡ v.indexes ++ claim.number ∷ [] = ap (λ (u : Claims). u.indexes) claim.after in
    let last : filter (λ i. nat_lt i n) (claim.number ∷ []) ≡ [] = rw none refl in
    sym r.kept_are ∙ sym (append-nil (filter (λ i. nat_lt i n) v.indexes)) ∙ ap (λ (l : List ℕ). filter (λ i. nat_lt i n) v.indexes ++ l) (sym last)
    ∙ sym (filter-append (λ i. nat_lt i n) v.indexes (claim.number ∷ [])) ∙ ap (filter (λ i. nat_lt i n)) (sym indexes ∙ whole)
    ∙ kept_below n (suc claim.number) (omega arith)

-- What some workers took, and a pass to which theirs were joined.
pub record Collected (n all back : ℕ) (v : Claims) (taken : List (List ℕ)) : Type 0 where
  pub claims : length v.indexes + v.left + all * (n + 1) ≡ 2 ^ 32 + back * (n + 1)
  pub few : length v.indexes ≤ back * (n + 1)
  pub ascending : AllByRecursion Ascends taken
  pub same : IsPermutation (filter (λ i. nat_lt i n) v.indexes) (flat_map (λ (l : List ℕ). l) taken)

length-put_in : (x : ℕ) (ys : List ℕ) → length (put_in x ys) ≡ length ys + 1
length-put_in x [] = refl
length-put_in x (y ∷ ys) =
    let e : length ys + 1 ≡ length (put_in x ys) = sym (length-put_in x ys) in
    elim (nat_lt x y) as (λ b. length (cond b (x ∷ (y ∷ ys)) (y ∷ put_in x ys)) ≡ length (y ∷ ys) + 1) [ true ↦ omega arith | false ↦ omega (arith, e) ]

length-merged : (xs ys : List ℕ) → length (merged xs ys) ≡ length xs + length ys
length-merged xs [] = omega arith
length-merged xs (y ∷ ys) = let e = length-put_in y (merged xs ys) in let f = length-merged xs ys in omega arith

all_push : {X : Type 0} (P : X → Type 0) (xs : List X) (x : X) → AllByRecursion P xs → P x → AllByRecursion P (xs ++ x ∷ [])
all_push P [] x all p = (p, tt)
all_push P (y ∷ xs) x all p = (all.0, all_push P xs x all.1 p)

-- one worker more
pub collected_more : (n all back : ℕ) (v w u : Claims) (taken next : List (List ℕ)) (indexes : List ℕ) → u ≡ joined v w → HasTaken n w indexes
    → next ≡ taken ++ indexes ∷ [] → Collected n all back v taken → Collected n all (back + 1) u next
collected_more n all back v w u taken next indexes join took pushed c =
    let p : (ℕ → Bool) = λ i. nat_lt i n in
    let flat : List (List ℕ) → List ℕ = flat_map (λ (l : List ℕ). l) in
    let is : u.indexes ≡ merged v.indexes w.indexes = ap (λ (x : Claims). x.indexes) join in
    let long : length u.indexes ≡ length v.indexes + length w.indexes = ap length is ∙ length-merged v.indexes w.indexes in
    let left : u.left ≡ v.left + w.left = ap (λ (x : Claims). x.left) join in
    let of_w = took.all in
    let flat_is : flat next ≡ flat taken ++ filter p w.indexes =
    ap flat pushed ∙ sym (flat_map_more (λ (l : List ℕ). l) [] taken indexes) ∙ ap (λ (l : List ℕ). flat taken ++ l) took.indexes_are in
    let both = IsPermutation-trans (filter p (merged v.indexes w.indexes)) (filter p v.indexes ++ filter p w.indexes) (flat taken ++ filter p w.indexes)
    (kept_merged p v.indexes w.indexes) (IsPermutation-append_left (filter p w.indexes) (filter p v.indexes) (flat taken) c.same) in
    record {
      claims = let k = c.claims in omega arith;
      few = let k = c.few in omega arith;
      ascending = subst (AllByRecursion Ascends) (sym pushed) (all_push Ascends taken indexes c.ascending took.ascends);
      same = subst (λ (l : List ℕ). IsPermutation (filter p u.indexes) l) (sym flat_is)
          (subst (λ (l : List ℕ). IsPermutation (filter p l) (flat taken ++ filter p w.indexes)) (sym is) both);
    }
