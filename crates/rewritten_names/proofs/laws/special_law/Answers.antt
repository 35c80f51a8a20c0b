use Rattle.std.proofs.Common.{◌≡◌, ℕ, zero, suc, List, [], ◌∷◌, Some, subst}
use Rattle.std.specs.Prelude.{slice_get}
use Rattle.std.specs.List.{AllZip}
use Rattle.jmodel.specs.format.ClassFile.{ClassFile}
use Rattle.objects.specs.semantics.Program.{Program}
use Rattle.objects.proofs.Links.{links}
use Rattle.objects.proofs.SourceProof.{source_law}
use Rattle.objects.proofs.Upward.{upward_law}
use Rattle.rewritten_names.specs.Heads.{Rewrites}
use Rattle.rewritten_names.proofs.Special.{leads_special}
use Rattle.rewritten_names.proofs.laws.special_law.Goals as goal

at_place : (P : Program) (xs ys : List ClassFile) → AllZip (Rewrites P) xs ys → (i : ℕ) (c d : ClassFile) → slice_get xs i ≡ Some c → slice_get ys i ≡ Some d → Rewrites P c d
at_place P [] ys z i c d e f = cc
at_place P (x ∷ xs) [] z i c d e f = absurd z
at_place P (x ∷ xs) (y ∷ ys) z zero c d e f = let s : x ≡ c = cc in let t : y ≡ d = cc in subst (Rewrites P c) t (subst (λ (c : ClassFile). Rewrites P c y) s z.0)
at_place P (x ∷ xs) (y ∷ ys) z (suc i) c d e f = at_place P xs ys z.1 i c d e f

pub returns : goal.returns
returns c P cs ds h r texts i x y e f =
    let l = links cs P r.linked in
    leads_special cs P r.read l (source_law cs P r.read r.linked) (upward_law cs l.supers) ds h r.each r.named texts x y (i, e) (at_place P cs ds r.each i x y e f)
