use Rattle.std.proofs.Common.{ℕ, List, [], ◌∷◌, ◌++◌, take, get_or, sym, ap, ◌∙◌}
use Rattle.std.specs.List.{find}
use Rattle.std.proofs.lemmas.List.{append_assoc, take_more}
use Rattle.resolution.proofs.Finding.{same_front, found_itself}
use Rattle.resolution.proofs.ways.put_all.Goals as goal

pub loop-place-preserved : goal.loop-place-preserved
loop-place-preserved c =
    let xs = c.args.places.now in
    let i : ℕ = c.loop-place.place-index in
    let first = c.args.list.now.items in
    let one : List ℕ = get_or xs i 0 ∷ [] in (
      c.in_ok-put.ensures.marks,
      λ test. c.in_ok-put.ensures.same test ∙ same_front c.loop-place.list.items (first ++ take i xs) one one c.loop-place.invariant.1 (found_itself one) test
          ∙ ap (find test) (append_assoc first (take i xs) one ∙ ap (λ (l : List ℕ). first ++ l) (sym (take_more xs i 0 c.loop-place-test.true))),
    )
