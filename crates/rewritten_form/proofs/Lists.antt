-- What holds of the items of lists, and tests of two parts.
use Rattle.std.proofs.Common.{◌≡◌, ℕ, zero, suc, Bool, true, false, ◌||◌, cond, List, [], ◌∷◌, ◌++◌, Some, refl, subst}
use Rattle.std.specs.Prelude.{filter, slice_get}
use Rattle.std.specs.List.{AllByRecursion}

-- what follows for each
pub all_as : {A : Type 0} (Q R : A → Type 0) → ((x : A) → Q x → R x) → (xs : List A) → AllByRecursion Q xs → AllByRecursion R xs
all_as Q R f [] h = tt
all_as Q R f (x ∷ xs) h = (f x h.0, all_as Q R f xs h.1)

-- of one list, and of another behind it
pub all_append : {A : Type 0} (P : A → Type 0) (xs ys : List A) → AllByRecursion P xs → AllByRecursion P ys → AllByRecursion P (xs ++ ys)
all_append P [] ys h k = k
all_append P (x ∷ xs) ys h k = (h.0, all_append P xs ys h.1 k)

-- what holds of each holds of those that pass a test
pub all_where : {A : Type 0} (Q : A → Type 0) (p : A → Bool) (xs : List A) → AllByRecursion Q xs → AllByRecursion Q (filter p xs)
all_where Q p [] h = tt
all_where {A} Q p (x ∷ xs) h = go (p x) (all_where Q p xs h.1)
  where
    go : (b : Bool) → AllByRecursion Q (filter p xs) → AllByRecursion Q (cond b (x ∷ filter p xs) (filter p xs))
    go true rest = (h.0, rest)
    go false rest = rest

-- what holds of each holds of the one at a place
pub all_at : {A : Type 0} (Q : A → Type 0) (xs : List A) (i : ℕ) (x : A) → AllByRecursion Q xs → slice_get xs i ≡ Some x → Q x
all_at Q [] i x h e = absurd cc
all_at {A} Q (y ∷ xs) zero x h e = let s : y ≡ x = cc in subst Q s h.0
all_at Q (y ∷ xs) (suc i) x h e = all_at Q xs i x h.1 e

pub or_first : (u v : Bool) → u ≡ true → (u || v) ≡ true
or_first true v t = refl
or_first false v t = cc

pub or_later : (u v : Bool) → v ≡ true → (u || v) ≡ true
or_later true v t = refl
or_later false v t = t

-- neither of two tests passes
pub or_false : (u v : Bool) → (u || v) ≡ false → (u ≡ false) × (v ≡ false)
or_false true v t = absurd cc
or_false false v t = (refl, t)
