-- The example's tables have types as typing reads them, and its methods can be rewritten by them, so its rewriting is typed.
use Rattle.std.proofs.Common.{◌≡◌, ℕ, zero, suc, List, [], ◌∷◌, Some, true, refl, subst}
use Rattle.std.specs.Prelude.{slice_get}
use Rattle.objects.specs.semantics.Program.{Method, has_code, method_at}
use Rattle.objects.specs.typing.Typing.{Table}
use Rattle.objects.specs.laws.TypingLaw.{IsRewritable}
use Rattle.objects.proofs.ExampleProgram.{program}
use Rattle.objects.proofs.ExampleTables.{tables}
use Rattle.objects.proofs.ReadTests.{passes_from, passed}

abbrev AllPass : List Method → List Table → Type 0
AllPass [] Ts = Unit {0}
AllPass (k ∷ ks) [] = ⊥
AllPass (k ∷ ks) (T ∷ Ts) = (passes_from program 0 k T ≡ true) × AllPass ks Ts

item : (ks : List Method) (Ts : List Table) → AllPass ks Ts → (m : ℕ) (k : Method) (T : Table) → slice_get ks m ≡ Some k → slice_get Ts m ≡ Some T → passes_from program 0 k T ≡ true
item [] Ts all m k T e t = cc
item (x ∷ ks) [] all m k T e t = absurd all
item (x ∷ ks) (U ∷ Ts) all zero k T e t = let s : x ≡ k = cc in let r : U ≡ T = cc in subst (λ (k : Method). passes_from program 0 k T ≡ true) s (subst (λ (T : Table). passes_from program 0 x T ≡ true) r all.0)
item (x ∷ ks) (U ∷ Ts) all (suc m) k T e t = item ks Ts all.1 m k T e t

pub rewritable : (m : ℕ) (k : Method) (T : Table) → method_at program m ≡ Some k → slice_get tables m ≡ Some T → has_code (Some k) ≡ true → IsRewritable program k T
rewritable m k T e t code = passed program k T (item program.methods tables (refl, (refl, (refl, (refl, (refl, (refl, (refl, (refl, (refl, (refl, (refl, (refl, (refl, (refl, tt)))))))))))))) m k T e t)
