-- What the search for a typing begins with.
use Rattle.std.proofs.Common.{◌≡◌, ℕ, zero, suc, List, [], ◌∷◌, Some, refl, subst, arith}
use Rattle.std.proofs.lemmas.Bool.Decides.{nat_tests}
use Rattle.std.specs.List.{AllByRecursion}
use Rattle.std.specs.Prelude.{slice_get}
use Rattle.jmodel.specs.declared.typing.VType.{VType}
use Rattle.jmodel.specs.declared.typing.VType.TheVariants.{Int, Long, Second, Null, Ref, Uninit, UninitThis, Top}
use Rattle.objects.specs.semantics.Program.{Program}
use Rattle.objects.specs.typing.TypeOrder.{IsWithin, AreWithin}
use Rattle.objects.specs.typing.Source.{IsReadType, IsSource, IsSourceMethod}
use Rattle.verifier.specs.Answer.{TakesRead}

-- a type as typing reads it is within itself
type_itself : (P : Program) (t : VType) → IsReadType P t → IsWithin P t t
type_itself P Int r = refl
type_itself P Long r = refl
type_itself P Second r = refl
type_itself P Null r = refl
type_itself P (Ref n) r = r.itself
type_itself P (Uninit p) r = grind (arith, nat_tests)
type_itself P UninitThis r = refl
type_itself P Top r = refl

-- types as typing reads them are within themselves
pub read_itself : (P : Program) (ts : List VType) → AllByRecursion (IsReadType P) ts → AreWithin P ts ts
read_itself P [] r = tt
read_itself P (t ∷ ts) r = (type_itself P t r.0, read_itself P ts r.1)

-- one of the methods of a list
of_each : {A : Type 0} (Q : A → Type 0) (xs : List A) (i : ℕ) (x : A) → AllByRecursion Q xs → slice_get xs i ≡ Some x → Q x
of_each Q [] i x a e = cc
of_each Q (y ∷ xs) zero x a e = let s : y ≡ x = cc in subst Q s a.0
of_each Q (y ∷ xs) (suc i) x a e = of_each Q xs i x a.1 e

-- what the search asks of a method's parameters, of a program's rules
pub source_takes : (P : Program) (m : ℕ) → IsSource P → TakesRead P m
source_takes P m s k e = (of_each (IsSourceMethod P) P.methods m k s.methods e).takes
