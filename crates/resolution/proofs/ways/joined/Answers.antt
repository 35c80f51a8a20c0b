use Rattle.std.proofs.Common.{◌≡◌, ℕ, List, [], ◌++◌, get_or, refl, sym, ap, ◌∙◌, subst}
use Rattle.std.specs.List.{find}
use Rattle.std.proofs.lemmas.List.{append-nil}
use Rattle.resolution.specs.Ways.{AreMarks, entry_at}
use Rattle.resolution.proofs.Finding.{flat_more}
use Rattle.resolution.proofs.Tables.{lists, items_in, entry_got}
use Rattle.resolution.proofs.ways.joined.Goals as goal
use Rattle.resolution.proofs.ways.joined.Goals.{in-Some+in_ok-put_all, in_default}

pub loop-place-preserved : goal.loop-place-preserved
loop-place-preserved c =
    let table = c.args.table.now in
    let xs = c.args.places.now in
    let i : ℕ = c.loop-place.place-index in
    let p : ℕ = get_or xs i 0 in
    let before = c.loop-place.list.items in
    let got = entry_got table p c.get.result c.get.ensures.lookup.0 c.get.ensures.lookup.1 in
    elim c.match-get.branch [
      | in-Some+in_ok-put_all w ↦
          let list = ap (λ v. v.items) w.list-is in
          let marks = ap (λ v. v.items) w.marks-is in
          let entry = w.as_slice.ensures.value ∙ sym (got ∙ ap items_in w.in-Some.is) in (
            subst (λ l. AreMarks l c.match-get.list.items) (sym marks) (subst (λ l. AreMarks w.put_all.new.marks.items l) (sym list) w.in_ok-put_all.ensures.marks),
            flat_more (entry_at (lists table)) before c.match-get.list.items xs i 0 p c.loop-place-test.true refl c.loop-place.invariant.1
                (λ test. ap (find test) list ∙ w.in_ok-put_all.ensures.same test ∙ ap (λ (l : List ℕ). find test (before ++ l)) entry),
          )
      | in_default w ↦
          let list = ap (λ v. v.items) w.list-is in
          let marks = ap (λ v. v.items) w.marks-is in
          let entry : entry_at (lists table) p ≡ [] = got ∙ ap items_in w.in_default.is in (
            subst (λ l. AreMarks l c.match-get.list.items) (sym marks) (subst (λ l. AreMarks c.loop-place.marks.items l) (sym list) c.loop-place.invariant.0),
            flat_more (entry_at (lists table)) before c.match-get.list.items xs i 0 p c.loop-place-test.true refl c.loop-place.invariant.1
                (λ test. ap (find test) (list ∙ sym (append-nil before) ∙ ap (λ (l : List ℕ). before ++ l) (sym entry))),
          )
    ]
