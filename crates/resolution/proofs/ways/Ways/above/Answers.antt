use Rattle.std.proofs.Common.{ℕ, List, sym, subst, ap, ◌∙◌}
use Rattle.std.specs.Prelude.{slice_get}
use Rattle.jmodel.specs.format.ClassFile.{ClassFile}
use Rattle.objects.specs.linking.Resolution.{above}
use Rattle.resolution.specs.Ways.{IsWay, entry_at}
use Rattle.resolution.proofs.Tables.{lists, items_in, entry_got}
use Rattle.resolution.proofs.ways.Ways.above.Goals as goal

pub returns-in-Some : goal.returns-in-Some
returns-in-Some c =
    let ds = c.self.inside.places in
    let class = c.args.class.now in
    let table = c.self.inside.aboves.items in
    let at = ap (λ (es : List ClassFile). slice_get es c.args.place) c.self.view_is ∙ c.requires in
    let way = c.self.invariant.to_above c.args.place class at in
    let got = ap (λ t. entry_at (lists t) c.args.place) (sym c.deref.ensures.value) ∙ entry_got c.deref.result.now c.args.place c.get.result c.get.ensures.lookup.0 c.get.ensures.lookup.1 ∙ ap items_in c.in-Some.is in
    subst (λ (es : List ClassFile). IsWay es c.as_slice.result.now (above es class)) c.self.view_is
    (subst (λ (ps : List ℕ). IsWay ds ps (above ds class)) (got ∙ sym c.as_slice.ensures.value) way)

pub returns-in-None : goal.returns-in-None
returns-in-None c =
    let ds = c.self.inside.places in
    let class = c.args.class.now in
    let at = ap (λ (es : List ClassFile). slice_get es c.args.place) c.self.view_is ∙ c.requires in
    let way = c.self.invariant.to_above c.args.place class at in
    let got = ap (λ t. entry_at (lists t) c.args.place) (sym c.deref.ensures.value) ∙ entry_got c.deref.result.now c.args.place c.get.result c.get.ensures.lookup.0 c.get.ensures.lookup.1 ∙ ap items_in c.in-None.is in
    subst (λ (es : List ClassFile). IsWay es _ (above es class)) c.self.view_is (subst (λ (ps : List ℕ). IsWay ds ps (above ds class)) got way)
