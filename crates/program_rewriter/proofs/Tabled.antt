-- The methods of a program beside their tables, and duplicates by them.
use Rattle.std.proofs.Common.{◌≡◌, ℕ, zero, suc, ◌+◌, ◌<◌, ◌≤◌, List, [], ◌∷◌, ◌++◌, length, take, get_or, Some, min, refl, sym, ap, ◌∙◌, subst, arith, add-one}
use Rattle.std.specs.Prelude.{slice_get}
use Rattle.std.specs.List.{AllByRecursion, AllZip}
use Rattle.std.proofs.lemmas.List.{take_all}
use Rattle.objects.specs.semantics.Program.{Method, Program}
use Rattle.objects.specs.typing.Source.{IsSource, IsSourceMethod}
use Rattle.objects.specs.typing.Typing.{Table}
use Rattle.objects.specs.rewriting.Rewriting.{duplicate_method, duplicates}
use Rattle.program_typing.specs.Tables.{AreTables}
use Rattle.program_typing.proofs.Chosen.{as_many}
use Rattle.program_rewriter.specs.Bodies.{IsShaped}

all_at : {A : Type 0} (F : A → Type 0) (xs : List A) (i : ℕ) (x : A) → AllByRecursion F xs → slice_get xs i ≡ Some x → F x
all_at F [] i x h is = absurd cc
all_at F (y ∷ ys) zero x h is = let same : y ≡ x = cc in subst F same h.0
all_at F (y ∷ ys) (suc i) x h is = all_at F ys i x h.1 is

shaped : (P : Program) (ks : List Method) → AllByRecursion (IsSourceMethod P) ks → AllByRecursion IsShaped ks
shaped P [] h = tt
shaped P (k ∷ ks) h = (h.0.many, shaped P ks h.1)

-- the parameters of source methods have as many places as they say
pub all_shaped : (P : Program) → IsSource P → AllByRecursion IsShaped P.methods
all_shaped P source = shaped P P.methods source.methods

-- an item by its place
found : {A : Type 0} (xs : List A) (i : ℕ) (x : A) → i < length xs → x ≡ get_or xs i x → slice_get xs i ≡ Some x
found [] i x h e = absurd (omega (arith, h))
found {A} (y ∷ xs) zero x h e = ap (λ (z : A). Some z) (sym e)
found (y ∷ xs) (suc i) x h e = found xs i x (omega (arith, h)) e

pub shaped_at : (P : Program) (i : ℕ) (k : Method) → IsSource P → i < length P.methods → k ≡ get_or P.methods i k → IsShaped k
shaped_at P i k source h is = (all_at (IsSourceMethod P) P.methods i k source.methods (found P.methods i k h is)).many

-- one duplicate more
more : (P : Program) (ks : List Method) (Ts : List Table) (i : ℕ) (k : Method) (T : Table) → i < length ks → i < length Ts → k ≡ get_or ks i k → T ≡ get_or Ts i T
    → duplicates P (take (suc i) ks) (take (suc i) Ts) ≡ duplicates P (take i ks) (take i Ts) ++ duplicate_method P k T ∷ []
more P [] Ts i k T h g is too = absurd (omega (arith, h))
more P (x ∷ ks) [] i k T h g is too = absurd (omega (arith, g))
more P (x ∷ ks) (U ∷ Ts) zero k T h g is too = ap (λ (y : Method). duplicate_method P y U ∷ []) (sym is) ∙ ap (λ (V : Table). duplicate_method P k V ∷ []) (sym too)
more P (x ∷ ks) (U ∷ Ts) (suc i) k T h g is too = ap (λ (ds : List Method). duplicate_method P x U ∷ ds) (more P ks Ts i k T (omega (arith, h)) (omega (arith, g)) is too)

pub one_more : (P : Program) (ks : List Method) (Ts : List Table) (i : ℕ) (k : Method) (T : Table) → i < length ks → i < length Ts → k ≡ get_or ks i k → T ≡ get_or Ts i T
    → duplicates P (take (i + 1) ks) (take (i + 1) Ts) ≡ duplicates P (take i ks) (take i Ts) ++ duplicate_method P k T ∷ []
one_more P ks Ts i k T h g is too = ap (λ (n : ℕ). duplicates P (take n ks) (take n Ts)) (add-one i) ∙ more P ks Ts i k T h g is too

-- those of as many methods as there are
pub all_made : (P : Program) (Ts : List Table) (n : ℕ) → AreTables P Ts → n ≡ min (length P.methods) (length Ts) → duplicates P (take n P.methods) (take n Ts) ≡ duplicates P P.methods Ts
all_made P Ts n are e =
    let many = as_many P P.methods Ts are in
    let all : take n P.methods ≡ P.methods = take_all n P.methods (omega (arith, e, many)) in
    let each : take n Ts ≡ Ts = take_all n Ts (omega (arith, e, many)) in
    ap (λ (ks : List Method). duplicates P ks (take n Ts)) all ∙ ap (λ (Us : List Table). duplicates P P.methods Us) each
