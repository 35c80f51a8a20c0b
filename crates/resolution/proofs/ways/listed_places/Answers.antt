use Rattle.std.proofs.Common.{ℕ, sym, ap, ◌∙◌, subst}
use Rattle.std.specs.List.{find}
use Rattle.std.proofs.lemmas.List.{append-nil}
use Rattle.jmodel.specs.format.Pool.{text_or_none, class_name}
use Rattle.hierarchy.specs.Places.{place_of}
use Rattle.resolution.specs.Ways.{AreMarks}
use Rattle.resolution.proofs.Listing.{index_more}
use Rattle.resolution.proofs.ways.listed_places.Goals as goal
use Rattle.resolution.proofs.ways.listed_places.Goals.{in-Some+in_ok-put, in_default}

pub loop-index-preserved : goal.loop-index-preserved
loop-index-preserved c =
    let cs = c.args.places.now in
    let name = λ (k : ℕ). text_or_none (class_name c.args.pool.now k) in
    let xs = c.args.indexes.now in
    let i : ℕ = c.loop-index.index-index in
    let before = c.loop-index.list.items in
    let found = ap (place_of cs) (sym c.class_text.ensures) ∙ sym c.place_of.ensures in
    elim c.match-place_of.branch [
      | in-Some+in_ok-put w ↦
          let list = ap (λ v. v.items) w.list-is in
          let marks = ap (λ v. v.items) w.marks-is in (
            subst (λ l. AreMarks l c.match-place_of.list.items) (sym marks) (subst (λ l. AreMarks w.put.new.marks.items l) (sym list) w.in_ok-put.ensures.marks),
            index_more cs name xs i before c.match-place_of.list.items _ c.loop-index-test.true (found ∙ w.in-Some.is) c.loop-index.invariant.1 (λ test. ap (find test) list ∙ w.in_ok-put.ensures.same test),
          )
      | in_default w ↦
          let list = ap (λ v. v.items) w.list-is in
          let marks = ap (λ v. v.items) w.marks-is in (
            subst (λ l. AreMarks l c.match-place_of.list.items) (sym marks) (subst (λ l. AreMarks c.loop-index.marks.items l) (sym list) c.loop-index.invariant.0),
            index_more cs name xs i before c.match-place_of.list.items _ c.loop-index-test.true (found ∙ w.in_default.is) c.loop-index.invariant.1 (λ test. ap (find test) (list ∙ sym (append-nil before))),
          )
    ]
