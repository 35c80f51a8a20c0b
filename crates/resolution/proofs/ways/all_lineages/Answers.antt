use Rattle.std.proofs.Common.{◌≡◌, ◌∷◌, [], ℕ, ◌+◌, List, length, sym, ap, ◌∙◌, arith}
use Rattle.std.specs.Prelude.{slice_get}
use Rattle.std.proofs.lemmas.List.{length-map, length-append}
use Rattle.jmodel.specs.format.ClassFile.{ClassFile}
use Rattle.objects.specs.linking.Superclasses.{lineage}
use Rattle.resolution.proofs.Climbing.{lineages_more, all_named}
use Rattle.resolution.proofs.Tables.{lists, seen_there}
use Rattle.resolution.proofs.ways.all_lineages.Goals as goal

pub loop-class-preserved : goal.loop-class-preserved
loop-class-preserved c =
    let cs = c.args.places.now in
    let classes = c.classes-class-items.result.now in
    let i : ℕ = c.loop-class.class-index in
    let vs = c.loop-class.table.items in
    let inv = c.loop-class.invariant in
    let count : length (lists vs) ≡ i = inv.1 in
    let same : length (lists vs) ≡ length vs = length-map _ _ in
    let more : length c.push.new.self.items ≡ length vs + 1 = ap (λ l. length l) c.in_ok-push.ensures.items ∙ length-append vs (c.in_ok-lineage_of.field-0 ∷ []) in
    let seen : length (lists c.push.new.self.items) ≡ length c.push.new.self.items = length-map _ _ in
    let at : slice_get cs i ≡ _ = ap (λ (l : List ClassFile). slice_get l i) (sym c.classes-class-items.ensures) ∙ seen_there classes i c.class-item.result c.loop-class-test.true c.class-item.is in (
      omega arith,
      omega (arith, count, same, more, seen),
      lineages_more cs i c.class-item.result.now vs c.push.new.self.items c.in_ok-lineage_of.field-0 c.in_ok-push.ensures.items at (c.in_ok-lineage_of.ensures ∙ ap (lineage cs) c.own_name.ensures) inv.1 inv.2,
    )

pub returns : goal.returns
returns c =
    let cs = c.args.places.now in
    let many : length cs ≡ length c.classes-class-items.result.now = ap (λ (l : List ClassFile). length l) (sym c.classes-class-items.ensures) ∙ length-map _ _ in
    all_named cs c.loop-class.class-index (lists c.loop-class.table.items) (let end = c.loop-class-test.false in omega (arith, many, end)) c.loop-class.invariant.2
