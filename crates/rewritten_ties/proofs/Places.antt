-- What stands at one place of two lists.
use Rattle.std.proofs.Common.{◌≡◌, ℕ, zero, suc, List, [], ◌∷◌, Some, subst}
use Rattle.std.specs.Prelude.{slice_get}
use Rattle.std.specs.List.{AllZip}
use Rattle.jmodel.specs.format.ClassFile.{ClassFile}
use Rattle.objects.specs.semantics.Program.{Program}
use Rattle.rewritten_names.specs.Heads.{Rewrites}

-- a class and its rewriting stand at one place
pub at_place : (P : Program) (xs ys : List ClassFile) → AllZip (Rewrites P) xs ys → (i : ℕ) (c d : ClassFile) → slice_get xs i ≡ Some c → slice_get ys i ≡ Some d → Rewrites P c d
at_place P [] ys z i c d e f = cc
at_place P (x ∷ xs) [] z i c d e f = absurd z
at_place P (x ∷ xs) (y ∷ ys) z zero c d e f = let s : x ≡ c = cc in let t : y ≡ d = cc in subst (Rewrites P c) t (subst (λ (c : ClassFile). Rewrites P c y) s z.0)
at_place P (x ∷ xs) (y ∷ ys) z (suc i) c d e f = at_place P xs ys z.1 i c d e f
