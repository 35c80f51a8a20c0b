use Rattle.std.proofs.Common.{◌≡◌, ◌+◌, None, take, sym, ap, ◌∙◌, subst}
use Rattle.std.specs.Prelude.{not, option_copied}
use Rattle.hierarchy.proofs.InOrder.{seen}
use Rattle.hierarchy.proofs.Keys.{some_there, none_there}
use Rattle.heap_layout.specs.Folder.{place_under, HasPlaces}
use Rattle.heap_layout.proofs.Places.{got, new_name, old_name}
use Rattle.heap_layout.proofs.folder.by_name.Goals as goal
use Rattle.heap_layout.proofs.folder.by_name.Goals.{then-is_none+in_ok-from_slice+in_ok-insert, else-is_none}

pub loop-place-preserved : goal.loop-place-preserved
loop-place-preserved c =
    let classes = c.args.classes.now in
    let i = c.loop-place.place in
    let class = c.index-classes-place.result in
    let old = c.loop-place.own.entries in
    let name = c.own_name-name.result.now in
    let under : option_copied c.get.result ≡ place_under old name = c.get.ensures.value ∙ got name old in
    elim c.if-is_none.branch [
      | then-is_none+in_ok-from_slice+in_ok-insert w ↦ (
          let key = w.in_ok-from_slice.field-0 in
          let none : place_under old key.items ≡ None = ap (place_under old) w.in_ok-from_slice.ensures.items ∙ sym under ∙ none_there c.get.result (c.is_none.ensures ∙ ap not w.if-is_none.true) in
          let new = new_name classes i class c.loop-place-test.true c.index-classes-place.is old key (w.in_ok-from_slice.ensures.items ∙ c.own_name-name.ensures) c.loop-place.invariant none in
          subst (λ es. HasPlaces es (seen (take (i + 1) classes))) (sym (ap (λ m. m.entries) w.own-is ∙ w.in_ok-insert.ensures.entries)) new)
      | else-is_none w ↦ (
          let some = some_there c.get.result (c.is_none.ensures ∙ ap not w.if-is_none.false) in
          let kept = old_name classes i class c.loop-place-test.true c.index-classes-place.is old name some.0 c.own_name-name.ensures c.loop-place.invariant (sym under ∙ some.1) in
          subst (λ es. HasPlaces es (seen (take (i + 1) classes))) (sym (ap (λ m. m.entries) w.own-is)) kept)
    ]
