-- Class files that were read, and the path of the helper of arrays.
use Rattle.std.proofs.Common.{◌≡◌, ◌<◌, ◌+◌, ℕ, zero, suc, List, [], ◌∷◌, length, get_or, take, slice_get, Option, Some, None, refl, subst, arith}
use Rattle.std.specs.Prelude.{string_bytes, Contains}
use Rattle.std.specs.List.{AllByRecursion, AllZip}
use Rattle.std.proofs.lemmas.Option.{slice_get_read}
use Rattle.jmodel.specs.declared.refusal.Refusal.{Refusal}
use Rattle.jmodel.specs.format.ClassFile.{ClassFile}
use Rattle.deuce.specs.declared.inputs.ClassInput.{ClassInput}
use Rattle.deuce.specs.Folder.{helper_path}
use Rattle.deuce.specs.Ending.{paths_of, IsHelperAt, EndsReserved}
use Rattle.deuce.proofs.Lists.{all_more}

-- a class file that has another path
abbrev pub IsElsewhere : ClassInput → Type 0
IsElsewhere i = string_bytes i.relative ≡ helper_path → ⊥

-- where each has another, none has it
pub not_there : (inputs : List ClassInput) → AllByRecursion IsElsewhere inputs → Contains (paths_of inputs) helper_path → ⊥
not_there [] all (i, lt, is) = absurd (omega (arith, lt))
not_there (x ∷ xs) all (zero, lt, is) = all.0 is
not_there (x ∷ xs) all (suc i, lt, is) = not_there xs all.1 (i, omega (arith, lt), is)

module _ (inputs : List ClassInput) (i : ℕ) (input : ClassInput) (lt : i < length inputs) (is : input ≡ get_or inputs i input) where
  there : slice_get inputs i ≡ Some input
  there = slice_get_read inputs (length inputs) i input refl lt is

  -- one more that has another
  pub one_elsewhere : AllByRecursion IsElsewhere (take i inputs) → IsElsewhere input → AllByRecursion IsElsewhere (take (i + 1) inputs)
  one_elsewhere all other = all_more IsElsewhere inputs i all (λ x at. let same : input ≡ x = let here = there in cc in subst IsElsewhere same other)

  -- one that has it
  pub at_helper : string_bytes input.relative ≡ helper_path → IsHelperAt inputs i
  at_helper e = record { input = input; there = there; at_helper = e }

-- what is alike each by each is alike at a place
pub zip_at : {A B : Type 0} (R : A → B → Type 0) (xs : List A) (ys : List B) (i : ℕ) (x : A) (y : B) → AllZip R xs ys → slice_get xs i ≡ Some x → slice_get ys i ≡ Some y → R x y
zip_at R [] ys i x y all h k = cc
zip_at R (w ∷ xs) [] i x y all h k = absurd all
zip_at {A} {B} R (w ∷ xs) (z ∷ ys) zero x y all h k = let one : w ≡ x = cc in let other : z ≡ y = cc in subst (λ (v : B). R x v) other (subst (λ (u : A). R u z) one all.0)
zip_at R (w ∷ xs) (z ∷ ys) (suc i) x y all h k = zip_at R xs ys i x y all.1 h k

-- class files that aren't refused have other paths
pub are_elsewhere : (inputs : List ClassInput) (cs : List ClassFile) (o : Option Refusal) → EndsReserved inputs cs o → ((r : Refusal) → o ≡ Some r → ⊥) → Contains (paths_of inputs) helper_path → ⊥
are_elsewhere inputs cs None h none = h
are_elsewhere inputs cs (Some r) h none = absurd (none r refl)
