use Rattle.std.proofs.Common.{◌≡◌, ◌<◌, ◌%◌, ℕ, All, reverse, refl, sym, ap, ◌∙◌, inl, subst}
use mathlib.Core.Option.{none}
use Rattle.tx_table.specs.Book.{Book, Map, lookup, pairs}
use Rattle.tx_table.specs.Plays.{ticked_up, update_entry}
use Rattle.tx_table.specs.Passes.{book}
use Rattle.tl2.specs.Commits.{Holds}
use Rattle.tl2.specs.Plans.{words_of, IsListed}
use Rattle.tl2.proofs.Updating.{elsewhere_read, elsewhere_fits, due_held, held_due, elsewhere_free, all_safe, some_held, means_stored, means_lost, ticked_then, ticked_lost, updates, added}
use Rattle.tl2.proofs.Rests.{taking_here}
use Rattle.lsa.proofs.update.update.Goals as goal

pub tick_checked-requires : goal.tick_checked-requires
tick_checked-requires g c κs within =
    let v = book c.args.pass.now in
    let p = c.requires.plan in
    let ready = c.requires.ready in
    let stripes = c.args.plan.now.stripes.items in
    let heap : All (λ a. a < c.args.shared.now.words) c.deref.result.now = rw c.deref.ensures.value (elsewhere_fits v.reads p c.args.shared.now.words c.requires.heap.1) in
    (within, (refl, (c.requires.table, (heap, (ready, (due_held v.reads p stripes refl v c.requires.holds, (held_due v.reads p stripes refl v c.requires.holds, c.requires.settled)))))))

pub store_all-requires : goal.store_all-requires
store_all-requires g c κs within =
    let w = reverse c.args.writes.now.items in
    let v = book c.args.pass.now in
    let v3 = book c.tick_checked.new.pass in
    let t = c.in-Ok.at in
    let story = g.T.Story.story c.args.shared.now.table.shared.key.story.value in
    let stripes = c.args.plan.now.stripes.items in
    let checked = c.in-Ok.ensures.ok in
    let k = ticked_then t (pairs w) checked.1.0 v v v3 checked.0 (taking_here v c.requires.ready.0 c.requires.ready.1) checked.1.1 in
    let holds : Holds stripes v3 = subst (λ (h : Map ℕ). IsListed h (words_of stripes)) (sym (ap (λ (b : Book). b.face.held) checked.1.1)) c.requires.holds in (
      within,
      (
        c.tick_checked.ensures.same.0 ∙ c.requires.table,
        (
          c.requires.heap.0,
          (
            c.requires.any,
            (
              (k.stage, k.live, k.due),
              (
                rw k.reads (all_safe v.reads c.requires.plan stripes refl v3 holds (ticked_up v t (pairs w)) (rw c.deref.ensures.value at checked.1)),
                updates t w v v3 c.args.answer.value c.args.used.value k story (c.requires.entry t),
              ),
            ),
          ),
        ),
      ),
    )

pub release_all-requires-clause-any : goal.release_all-requires-clause-any
release_all-requires-clause-any g c =
    let v = book c.args.pass.now in
    let stripes = c.args.plan.now.stripes.items in
    let is : (book c.store_all.new.pass).face.held ≡ v.face.held =
    ap (λ (b : Book). b.face.held) c.store_all.ensures.book.2 ∙ ap (λ (b : Book). b.face.held) c.in-Ok.ensures.ok.1.1 in
    let some = some_held (reverse c.args.writes.now.items) v.face.held c.requires.any (due_held v.reads c.requires.plan stripes refl v c.requires.holds) in
    λ e. some (sym is ∙ e)

pub returns-in-Ok-clause-ok : goal.returns-in-Ok-clause-ok
returns-in-Ok-clause-ok g c =
    let w = reverse c.args.writes.now.items in
    let v = book c.args.pass.now in
    let v3 = book c.tick_checked.new.pass in
    let t = c.in-Ok.at in
    let checked = c.in-Ok.ensures.ok in
    let k = ticked_then t (pairs w) checked.1.0 v v v3 checked.0 (taking_here v c.requires.ready.0 c.requires.ready.1) checked.1.1 in
    (refl, k.seen.0, added t w v v3 c.args.answer.value c.args.used.value k c.store_all.ensures.book.0 (book c.store_all.new.pass) (book c.release_all.new.pass) c.store_all.ensures.book.2 c.release_all.ensures.rest)

pub returns-in-Ok-clause-means : goal.returns-in-Ok-clause-means
returns-in-Ok-clause-means g c =
    let v = book c.args.pass.now in
    let checked = c.in-Ok.ensures.ok.1 in
    let book_is = c.store_all.ensures.book in
    let v3 = book c.tick_checked.new.pass in
    means_stored v.reads c.requires.plan v v (λ a i. inl i) c.in-Ok.at checked.0 (update_entry v3 c.args.answer.value c.args.used.value) book_is.0 v3 (book c.store_all.new.pass)
    (book c.release_all.new.pass) checked.1 book_is.2 c.release_all.ensures.wants

pub returns-in-Err-clause-free : goal.returns-in-Err-clause-free
returns-in-Err-clause-free g c =
    let v = book c.args.pass.now in
    let stripes = c.args.plan.now.stripes.items in
    let is : (book c.tick_checked.new.pass).face.held ≡ v.face.held = ap (λ (b : Book). b.face.held) c.in-Err.ensures.err.2.1 in
    let some = some_held (reverse c.args.writes.now.items) v.face.held c.requires.any (due_held v.reads c.requires.plan stripes refl v c.requires.holds) in
    (c.give_back.ensures.free, c.give_back.ensures.over (λ e. some (sym is ∙ e)))

pub returns-in-Err-clause-conflict : goal.returns-in-Err-clause-conflict
returns-in-Err-clause-conflict g c =
    let k = c.in-Err.ensures.conflict in
    let read = elsewhere_read (book c.args.pass.now).reads c.requires.plan c.in-Err.conflict.address (rw c.deref.ensures.value at k.2) in
    (k.0, k.1, read.0)

pub returns-in-Err-clause-err : goal.returns-in-Err-clause-err
returns-in-Err-clause-err g c =
    let v = book c.args.pass.now in
    let w = reverse c.args.writes.now.items in
    let stripes = c.args.plan.now.stripes.items in
    let lost = c.in-Err.ensures.err in
    let held : (book c.tick_checked.new.pass).face.held ≡ v.face.held = ap (λ (b : Book). b.face.held) lost.2.1 in
    let some = some_held w v.face.held c.requires.any (due_held v.reads c.requires.plan stripes refl v c.requires.holds) in
    let over = c.give_back.ensures.over (λ e. some (sym held ∙ e)) in
    ticked_lost lost.0 (pairs w) lost.2.0 c.in-Err.conflict v v (book c.tick_checked.new.pass) (book c.give_back.new.pass) lost.1 c.in-Err.ensures.conflict.0
    (taking_here v c.requires.ready.0 c.requires.ready.1) lost.2.1 c.give_back.ensures.rest over

pub returns-in-Err-clause-means : goal.returns-in-Err-clause-means
returns-in-Err-clause-means g c =
    let v = book c.args.pass.now in
    let lost = c.in-Err.ensures.err in
    means_lost v.reads c.requires.plan v v (λ a i. inl i) lost.0 lost.2.0 c.in-Err.conflict.address c.in-Err.conflict.word (book c.tick_checked.new.pass)
    (book c.give_back.new.pass) lost.2.1 c.give_back.ensures.wants

pub returns-in-Err-clause-other : goal.returns-in-Err-clause-other
returns-in-Err-clause-other g c =
    let v = book c.args.pass.now in
    let free : All (λ (a : ℕ). lookup v.face.held (a % 4096) ≡ none) c.deref.result.now = rw c.deref.ensures.value (elsewhere_free v.reads c.requires.plan c.args.plan.now.stripes.items refl v c.requires.holds) in
    c.in-Err.ensures.other free

pub returns-in-Err-clause-sole : goal.returns-in-Err-clause-sole
returns-in-Err-clause-sole g c = λ whole.
    let v = book c.args.pass.now in
    let free : All (λ (a : ℕ). lookup v.face.held (a % 4096) ≡ none) c.deref.result.now = rw c.deref.ensures.value (elsewhere_free v.reads c.requires.plan c.args.plan.now.stripes.items refl v c.requires.holds) in
    c.in-Err.ensures.sole whole free
