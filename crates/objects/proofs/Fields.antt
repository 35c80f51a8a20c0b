-- Items of lists.
use Rattle.std.proofs.Common.{◌≡◌, ℕ, zero, suc, ◌<◌, List, [], ◌∷◌, length, Some, None, Bool, true, false, refl, sym, ap, subst, ◌∙◌, arith}
use Rattle.std.specs.Prelude.{slice_get, slice_set, nat_lt, find, position, if◌then◌else◌}
use Rattle.std.specs.List.{AllByRecursion, position_or_len}
use Rattle.std.proofs.lemmas.Bool.Decides.{nat_tests}
use Rattle.std.proofs.lemmas.List.Folds.{find_at}

-- what holds of each item holds of one
pub each_at : {A : Type 0} (p : A → Type 0) (xs : List A) (i : ℕ) (x : A) → AllByRecursion p xs → slice_get xs i ≡ Some x → p x
each_at p [] i x h e = cc
each_at p (y ∷ xs) zero x h e = let s : y ≡ x = cc in subst p s h.0
each_at p (y ∷ xs) (suc i) x h e = each_at p xs i x h.1 e

pub some_at : {A : Type 0} (xs : List A) (i : ℕ) → i < length xs → (x : A) × (slice_get xs i ≡ Some x)
some_at [] i h = absurd (omega arith)
some_at (x ∷ xs) zero h = (x, refl)
some_at (x ∷ xs) (suc i) h = let h' : i < length xs = omega arith in some_at xs i h'

pub all_set : {A : Type 0} (p : A → Type 0) (xs : List A) (i : ℕ) (x : A) → AllByRecursion p xs → p x → AllByRecursion p (slice_set xs i x)
all_set p [] i x h g = tt
all_set p (y ∷ xs) zero x h g = (g, h.1)
all_set p (y ∷ xs) (suc i) x h g = (h.0, all_set p xs i x h.1 g)

find_passes : {A : Type 0} (p : A → Bool) (xs : List A) (x : A) → find p xs ≡ Some x → p x ≡ true
find_passes p [] x e = cc
find_passes p (y ∷ xs) x e = by (find_passes p xs x) (p y) refl e
  where
    by : (find p xs ≡ Some x → p x ≡ true) → (b : Bool) → p y ≡ b → (if b then Some y else find p xs) ≡ Some x → p x ≡ true
    by rest true is e = let s : y ≡ x = cc in ap p (sym s) ∙ is
    by rest false is e = rest e

-- the item at a position that was found
pub found_at : {A : Type 0} (p : A → Bool) (xs : List A) (i : ℕ) → position p xs ≡ Some i → (x : A) × (slice_get xs i ≡ Some x) × (p x ≡ true)
found_at {A = A} p xs i e = by (nat_lt (position_or_len p xs) (length xs)) refl e
  where
    by : (b : Bool) → nat_lt (position_or_len p xs) (length xs) ≡ b → (if b then Some (position_or_len p xs) else None) ≡ Some i → (x : A) × (slice_get xs i ≡ Some x) × (p x ≡ true)
    by false is e = cc
    by true is e =
        let same : position_or_len p xs ≡ i = cc in
        let lt : position_or_len p xs < length xs = grind (arith, nat_tests) in
        let x = some_at xs (position_or_len p xs) lt in
        (x.0, ap (slice_get xs) (sym same) ∙ x.1, find_passes p xs x.0 (find_at p xs ∙ x.1))
