use Rattle.std.proofs.Common.{◌≡◌, ℕ, List, length, sym, ap, ◌∙◌, subst, arith}
use Rattle.std.specs.Prelude.{slice_get}
use Rattle.std.proofs.lemmas.List.{length-map}
use Rattle.std.proofs.lemmas.Option.{slice_get_past}
use Rattle.jmodel.specs.format.ClassFile.{ClassFile}
use Rattle.objects.specs.linking.Resolution.{names_above}
use Rattle.resolution.specs.Ways.{FindSame, listed}
use Rattle.resolution.proofs.Finding.{whole_table}
use Rattle.resolution.proofs.Tables.{lists, pushed, seen_there, listed_names}
use Rattle.resolution.proofs.ways.all_direct.Goals as goal

pub loop-class-preserved : goal.loop-class-preserved
loop-class-preserved c =
    let cs = c.args.places.now in
    let classes = c.classes-class-items.result.now in
    let i : ℕ = c.loop-class.class-index in
    let at : slice_get cs i ≡ _ = ap (λ (l : List ClassFile). slice_get l i) (sym c.classes-class-items.ensures) ∙ seen_there classes i c.class-item.result c.loop-class-test.true c.class-item.is in (
      omega arith,
      pushed (listed_names cs names_above) i c.loop-class.table.items c.push.new.self.items c.in_ok-direct_of.field-0 c.in_ok-push.ensures.items c.loop-class.invariant.1
          (subst (λ o. FindSame c.in_ok-direct_of.field-0.items (listed cs names_above o)) (sym at) c.in_ok-direct_of.ensures),
    )

pub returns-clause-listed : goal.returns-clause-listed
returns-clause-listed c =
    let cs = c.args.places.now in
    let f = listed_names cs names_above in
    let many : length cs ≡ length c.classes-class-items.result.now = ap (λ (l : List ClassFile). length l) (sym c.classes-class-items.ensures) ∙ length-map _ _ in
    whole_table f c.loop-class.class-index (lists c.loop-class.table.items) c.loop-class.invariant.1
    (λ p past. ap (listed cs names_above) (slice_get_past cs p (let end = c.loop-class-test.false in omega (arith, many, end, past))))

pub returns-clause-many : goal.returns-clause-many
returns-clause-many c =
    let cs = c.args.places.now in
    let many : length cs ≡ length c.classes-class-items.result.now = ap (λ (l : List ClassFile). length l) (sym c.classes-class-items.ensures) ∙ length-map _ _ in
    let count : length (lists c.loop-class.table.items) ≡ c.loop-class.class-index = c.loop-class.invariant.1.many in
    let same : length (lists c.loop-class.table.items) ≡ length c.loop-class.table.items = length-map _ _ in
    let below = c.loop-class.invariant.0 in
    let end = c.loop-class-test.false in
    omega (arith, many, count, same, below, end)
