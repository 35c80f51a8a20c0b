-- Places in lists, and those that wait.
use Rattle.std.proofs.Common.{◌≡◌, ◌≢◌, ℕ, zero, suc, ◌<◌, ◌≤◌, ◌⊎◌, inl, inr, List, [], ◌∷◌, length, Option, Some, None, Bool, true, false, refl, ap, arith}
use Rattle.std.proofs.lemmas.Bool.Decides.{nat_tests}
use Rattle.std.specs.Prelude.{slice_get, slice_set, option_and_then, nat_eq, nat_lt, ◌==◌}
use Rattle.std.specs.Ordering.{nat_cmp}
use Rattle.std.specs.BTreeMap.{is_at}
use Rattle.objects.specs.typing.Typing.{Types, Table, types_at}

pub same_or_not : (a b : ℕ) → (a ≡ b) ⊎ (a ≢ b)
same_or_not a b = go (nat_eq a b) refl
  where
    go : (t : Bool) → nat_eq a b ≡ t → (a ≡ b) ⊎ (a ≢ b)
    go true e = inl (grind (arith, nat_tests))
    go false e = inr (grind (arith, nat_tests))

pub get_same : {A : Type 0} (xs : List A) (i : ℕ) (x : A) → i < length xs → slice_get (slice_set xs i x) i ≡ Some x
get_same [] i x h = absurd (omega arith)
get_same (y ∷ xs) zero x h = refl
get_same (y ∷ xs) (suc i) x h = let h' : i < length xs = omega arith in get_same xs i x h'

pub get_other : {A : Type 0} (xs : List A) (i q : ℕ) (x : A) → q ≢ i → slice_get (slice_set xs i x) q ≡ slice_get xs q
get_other [] i q x h = refl
get_other (y ∷ xs) zero zero x h = absurd (h refl)
get_other (y ∷ xs) zero (suc q) x h = refl
get_other (y ∷ xs) (suc i) zero x h = refl
get_other (y ∷ xs) (suc i) (suc q) x h = get_other xs i q x (λ e. h (ap suc e))

pub get_within : {A : Type 0} (xs : List A) (i : ℕ) (x : A) → slice_get xs i ≡ Some x → i < length xs
get_within [] i x e = cc
get_within (y ∷ xs) zero x e = omega arith
get_within (y ∷ xs) (suc i) x e = let h = get_within xs i x e in omega arith

pub get_past : {A : Type 0} (xs : List A) (i : ℕ) → slice_get xs i ≡ None → length xs ≤ i
get_past [] i e = omega arith
get_past (y ∷ xs) zero e = cc
get_past (y ∷ xs) (suc i) e = let h = get_past xs i e in omega arith

pub to_entry : (T : Table) (q : ℕ) (h : Types) → types_at T q ≡ Some h → slice_get T q ≡ Some (Some h)
to_entry T q h e = go (slice_get T q) e
  where
    go : (o : Option (Option Types)) → option_and_then (λ (x : Option Types). x) o ≡ Some h → o ≡ Some (Some h)
    go None e = cc
    go (Some o) e = ap Some e

pub of_entry : (T : Table) (q : ℕ) (o : Option Types) → slice_get T q ≡ Some o → types_at T q ≡ o
of_entry T q o e = simp e

pub at_self : (n : ℕ) → is_at (nat_cmp n) n ≡ true
at_self n = let a : nat_lt n n ≡ false = grind (arith, nat_tests) in let b : (n == n) ≡ true = grind (arith, nat_tests) in simp (a, b)

pub at_same : (n q : ℕ) → is_at (nat_cmp n) q ≡ true → q ≡ n
at_same n q = go (nat_lt n q) (n == q) refl refl
  where
    go : (a b : Bool) → nat_lt n q ≡ a → (n == q) ≡ b → is_at (nat_cmp n) q ≡ true → q ≡ n
    go true b x y e = absurd (cc (simp x at e))
    go false true x y e = grind (arith, nat_tests)
    go false false x y e = absurd (cc (simp (x, y) at e))
