use Rattle.std.proofs.Common.{ℕ, List, ◌∷◌, subst, ◌∙◌, sym}
use Rattle.std.specs.List.{flat_map}
use Rattle.resolution.specs.Ways.{FindSame, entry_at}
use Rattle.resolution.proofs.Tables.{lists, pushed, entry_is}
use Rattle.resolution.proofs.ways.next_table.Goals as goal

pub loop-place-preserved : goal.loop-place-preserved
loop-place-preserved c =
    let T = lists c.args.table.now in
    let D = lists c.args.direct.now in
    let i : ℕ = c.loop-place.place in
    let f = λ (p : ℕ). p ∷ flat_map (entry_at T) (entry_at D p) in
    let others = c.as_slice.ensures.value ∙ sym (entry_is c.args.direct.now i c.index-direct-place.result c.loop-place-test.true c.index-direct-place.is) in
    pushed f i c.loop-place.next.items c.push.new.self.items c.in_ok-behind.field-0 c.in_ok-push.ensures.items c.loop-place.invariant
    (subst (λ (l : List ℕ). FindSame c.in_ok-behind.field-0.items (i ∷ flat_map (entry_at T) l)) others c.in_ok-behind.ensures)
