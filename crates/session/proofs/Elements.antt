-- The elements of lists.
use Rattle.std.proofs.Common.{◌≡◌, ◌<◌, ℕ, zero, suc, List, [], ◌∷◌, length, get_or, subst, sym, arith}
use Rattle.std.specs.List.{AllByRecursion}

-- what holds of each holds of the one at a place
pub all_here : {A : Type 0} (P : A → Type 0) (xs : List A) (i : ℕ) (x : A) → AllByRecursion P xs → i < length xs → x ≡ get_or xs i x → P x
all_here P [] i x all h is = absurd (omega (arith, h))
all_here P (y ∷ xs) zero x all h is = subst P (sym is) all.0
all_here P (y ∷ xs) (suc i) x all h is = all_here P xs i x all.1 (omega (arith, h)) is
