use Rattle.std.proofs.Common.{◌≡◌, ℕ, ◌+◌, List, Some, drop, sym, ap, ◌∙◌}
use Rattle.std.specs.Prelude.{slice_get}
use Rattle.jmodel.specs.format.ClassFile.{ClassFile}
use Rattle.objects.specs.linking.ClassesFaults.{circle_fault}
use Rattle.hierarchy.proofs.FirstFault.{found, passed}
use Rattle.resolution.proofs.Tables.{seen_there, drop_there}
use Rattle.resolution.proofs.circles.first_circle_fault.Goals as goal

pub returns-in-Some : goal.returns-in-Some
returns-in-Some c =
    let cs = c.args.ways.now in
    let class = c.class-item.result.now in
    let i : ℕ = c.loop-place.place in
    let at : slice_get cs i ≡ Some class =
    ap (λ (l : List ClassFile). slice_get l i) (sym c.places-places.ensures ∙ sym c.classes-class-items.ensures) ∙ seen_there c.classes-class-items.result.now i c.class-item.result c.loop-place-test.true c.class-item.is in
    found (circle_fault cs) (drop i cs) class (drop (i + 1) cs) c.in-Some.fault _ (drop_there cs i class at) (sym c.in_ok-fault.ensures ∙ c.in-Some.is) c.loop-place.invariant

pub loop-place-preserved : goal.loop-place-preserved
loop-place-preserved c =
    let cs = c.args.ways.now in
    let class = c.class-item.result.now in
    let i : ℕ = c.loop-place.place in
    let at : slice_get cs i ≡ Some class =
    ap (λ (l : List ClassFile). slice_get l i) (sym c.places-places.ensures ∙ sym c.classes-class-items.ensures) ∙ seen_there c.classes-class-items.result.now i c.class-item.result c.loop-place-test.true c.class-item.is in
    passed (circle_fault cs) (drop i cs) class (drop (i + 1) cs) _ (drop_there cs i class at) (sym c.in_ok-fault.ensures ∙ c.in_default.is) c.loop-place.invariant
