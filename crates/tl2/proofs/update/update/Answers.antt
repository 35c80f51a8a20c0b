use Rattle.std.proofs.Common.{◌≡◌, ◌<◌, ◌%◌, false, true, ℕ, List, All, length, reverse, refl, sym, ap, ◌∙◌, inl, inr, ⊎_elim, subst, arith}
use Rattle.std.proofs.lemmas.Result.{IfOk-from_err}
use Rattle.std.proofs.Math.Seq.{take-append_seam}
use mathlib.Core.Option.{none}
use Rattle.tx_table.specs.Book.{Book, Map, Has, In, lookup, pairs}
use Rattle.tx_table.specs.Plays.{ticked_up, update_entry}
use Rattle.tx_table.specs.Passes.{book}
use Rattle.tx_table.specs.Steps.{IsPast}
use Rattle.tl2.specs.declared.plan.Stripe.{Stripe}
use Rattle.tl2.specs.Commits.{Holds}
use Rattle.tl2.specs.Plans.{addresses_of, words_of, IsListed}
use Rattle.tl2.proofs.Members.{all_in}
use Rattle.tl2.proofs.Updating.{bounded, holding, read_tells, elsewhere_read, elsewhere_fits, stripes_fit, due_held, held_due, elsewhere_free, all_safe, some_held, means_stored, means_lost, ticked_then, ticked_lost, updates, added}
use Rattle.tl2.proofs.Rests.{err_says}
use Rattle.tl2.proofs.update.update.Goals as goal

pub take_all-requires-clause-heap : goal.take_all-requires-clause-heap
take_all-requires-clause-heap g c =
    let words = c.args.shared.now.words in
    rw c.deref_mut.ensures.value (stripes_fit (book c.args.pass.now).reads (holding c.requires.plan) words (bounded words (reverse c.args.writes.now.items) c.requires.heap.0))

pub take_all-requires-clause-read : goal.take_all-requires-clause-read
take_all-requires-clause-read g c = rw c.deref_mut.ensures.value (read_tells (book c.args.pass.now).reads c.requires.plan)

pub returns-in_err-take_all-clause-conflict : goal.returns-in_err-take_all-clause-conflict
returns-in_err-take_all-clause-conflict g c =
    let k = c.in_err-take_all.ensures.conflict in
    let back = c.from_residual.ensures in
    let due = all_in (Has (pairs (reverse c.args.writes.now.items))) (addresses_of c.args.plan.stripes.items) c.in_err-take_all.field-0.0.address c.requires.plan.only (rw c.deref_mut.ensures.value at k.2) in
    err_says c.from_residual.result back.1 (λ e q. rw q (k.0, k.1, inl due))

pub returns-in_err-take_all-clause-means : goal.returns-in_err-take_all-clause-means
returns-in_err-take_all-clause-means g c = λ a i.
    ⊎_elim (λ (w : In a (book c.args.pass.now).wants). inl w)
    (λ (j : In a (addresses_of c.deref_mut.result.now)). inr (all_in (Has (pairs (reverse c.args.writes.now.items))) (addresses_of c.args.plan.stripes.items) a c.requires.plan.only (rw c.deref_mut.ensures.value at j)))
    (c.take_all.ensures.means a i)

pub tick_checked-requires : goal.tick_checked-requires
tick_checked-requires g c κs within =
    let m = (book c.args.pass.now).reads in
    let p = holding c.requires.plan in
    let v1 = book c.take_all.new.pass in
    let ok = c.in_ok-take_all.ensures.ok in
    let taken : List Stripe = c.take_all.new.stripes in
    let same : addresses_of taken ≡ addresses_of c.args.plan.stripes.items = ok.2 ∙ ap addresses_of c.deref_mut.ensures.value in
    let words = c.args.shared.now.words in
    let heap : All (λ a. a < words) c.deref.result.now = rw c.deref.ensures.value (elsewhere_fits m p words c.requires.heap.1) in
    let ticks = ok.0.rest.ticks in
    (within, (refl, (c.take_all.ensures.same.0 ∙ c.requires.table, (heap, ((ok.0.stage, ok.0.live, omega arith), (due_held m p taken same v1 ok.1, (held_due m p taken same v1 ok.1, c.in_ok-take_all.ensures.settled)))))))

pub store_all-requires : goal.store_all-requires
store_all-requires g c κs within =
    let w = reverse c.args.writes.now.items in
    let v = book c.args.pass.now in
    let v1 = book c.take_all.new.pass in
    let v3 = book c.tick_checked.new.pass in
    let t = c.in-Ok.at in
    let story = g.T.Story.story c.args.shared.now.table.shared.key.story.value in
    let ok = c.in_ok-take_all.ensures.ok in
    let taken : List Stripe = c.take_all.new.stripes in
    let same : addresses_of taken ≡ addresses_of c.args.plan.stripes.items = ok.2 ∙ ap addresses_of c.deref_mut.ensures.value in
    let checked = c.in-Ok.ensures.ok in
    let k = ticked_then t (pairs w) checked.1.0 v v1 v3 checked.0 ok.0 checked.1.1 in
    let holds : Holds taken v3 = subst (λ (h : Map ℕ). IsListed h (words_of taken)) (sym (ap (λ (b : Book). b.face.held) checked.1.1)) ok.1 in (
      within,
      (
        c.tick_checked.ensures.same.0 ∙ c.take_all.ensures.same.0 ∙ c.requires.table,
        (
          c.requires.heap.0,
          (
            c.requires.any,
            (
              (k.stage, k.live, k.due),
              (
                rw k.reads (all_safe v.reads (holding c.requires.plan) taken same v3 holds (ticked_up v1 t (pairs w)) (rw c.deref.ensures.value at checked.1)),
                updates t w v v3 c.args.answer.value c.args.used.value k story (c.requires.entry t),
              ),
            ),
          ),
        ),
      ),
    )

pub release_all-requires-clause-any : goal.release_all-requires-clause-any
release_all-requires-clause-any g c =
    let v1 = book c.take_all.new.pass in
    let ok = c.in_ok-take_all.ensures.ok in
    let taken : List Stripe = c.take_all.new.stripes in
    let same : addresses_of taken ≡ addresses_of c.args.plan.stripes.items = ok.2 ∙ ap addresses_of c.deref_mut.ensures.value in
    let is : (book c.store_all.new.pass).face.held ≡ v1.face.held =
    ap (λ (b : Book). b.face.held) c.store_all.ensures.book.2 ∙ ap (λ (b : Book). b.face.held) c.in-Ok.ensures.ok.1.1 in
    let some = some_held (reverse c.args.writes.now.items) v1.face.held c.requires.any (due_held (book c.args.pass.now).reads (holding c.requires.plan) taken same v1 ok.1) in
    λ e. some (sym is ∙ e)

pub returns-in-Ok-clause-ok : goal.returns-in-Ok-clause-ok
returns-in-Ok-clause-ok g c =
    let w = reverse c.args.writes.now.items in
    let v = book c.args.pass.now in
    let v1 = book c.take_all.new.pass in
    let v3 = book c.tick_checked.new.pass in
    let t = c.in-Ok.at in
    let ok = c.in_ok-take_all.ensures.ok in
    let checked = c.in-Ok.ensures.ok in
    let k = ticked_then t (pairs w) checked.1.0 v v1 v3 checked.0 ok.0 checked.1.1 in
    (refl, k.seen.0, added t w v v3 c.args.answer.value c.args.used.value k c.store_all.ensures.book.0 (book c.store_all.new.pass) (book c.release_all.new.pass) c.store_all.ensures.book.2 c.release_all.ensures.rest)

pub returns-in-Ok-clause-means : goal.returns-in-Ok-clause-means
returns-in-Ok-clause-means g c =
    let checked = c.in-Ok.ensures.ok.1 in
    let book_is = c.store_all.ensures.book in
    let v3 = book c.tick_checked.new.pass in
    let means = rw c.deref_mut.ensures.value at c.take_all.ensures.means in
    means_stored (book c.args.pass.now).reads (holding c.requires.plan) (book c.args.pass.now) (book c.take_all.new.pass) means c.in-Ok.at checked.0 (update_entry v3 c.args.answer.value c.args.used.value) book_is.0 v3 (book c.store_all.new.pass)
    (book c.release_all.new.pass) checked.1 book_is.2 c.release_all.ensures.wants

pub returns-in-Err-clause-free : goal.returns-in-Err-clause-free
returns-in-Err-clause-free g c =
    let v1 = book c.take_all.new.pass in
    let ok = c.in_ok-take_all.ensures.ok in
    let taken : List Stripe = c.take_all.new.stripes in
    let same : addresses_of taken ≡ addresses_of c.args.plan.stripes.items = ok.2 ∙ ap addresses_of c.deref_mut.ensures.value in
    let is : (book c.tick_checked.new.pass).face.held ≡ v1.face.held = ap (λ (b : Book). b.face.held) c.in-Err.ensures.err.2.1 in
    let some = some_held (reverse c.args.writes.now.items) v1.face.held c.requires.any (due_held (book c.args.pass.now).reads (holding c.requires.plan) taken same v1 ok.1) in
    (c.give_back.ensures.free, c.give_back.ensures.over (λ e. some (sym is ∙ e)))

pub returns-in-Err-clause-conflict : goal.returns-in-Err-clause-conflict
returns-in-Err-clause-conflict g c =
    let k = c.in-Err.ensures.conflict in
    let bound = c.in_ok-take_all.ensures.ok.0.rest.bound in
    let read = elsewhere_read (book c.args.pass.now).reads (holding c.requires.plan) c.in-Err.conflict.address (rw c.deref.ensures.value at k.2) in
    (k.0 ∙ bound, subst (λ (n : ℕ). IsPast n c.in-Err.conflict.word) bound k.1, inr read.0)

pub returns-in-Err-clause-err : goal.returns-in-Err-clause-err
returns-in-Err-clause-err g c =
    let w = reverse c.args.writes.now.items in
    let v1 = book c.take_all.new.pass in
    let ok = c.in_ok-take_all.ensures.ok in
    let taken : List Stripe = c.take_all.new.stripes in
    let same : addresses_of taken ≡ addresses_of c.args.plan.stripes.items = ok.2 ∙ ap addresses_of c.deref_mut.ensures.value in
    let lost = c.in-Err.ensures.err in
    let held : (book c.tick_checked.new.pass).face.held ≡ v1.face.held = ap (λ (b : Book). b.face.held) lost.2.1 in
    let some = some_held w v1.face.held c.requires.any (due_held (book c.args.pass.now).reads (holding c.requires.plan) taken same v1 ok.1) in
    let over = c.give_back.ensures.over (λ e. some (sym held ∙ e)) in
    (1, omega arith, ticked_lost lost.0 (pairs w) lost.2.0 c.in-Err.conflict (book c.args.pass.now) v1 (book c.tick_checked.new.pass) (book c.give_back.new.pass) lost.1 c.in-Err.ensures.conflict.0 ok.0 lost.2.1 c.give_back.ensures.rest over)

pub returns-in-Err-clause-means : goal.returns-in-Err-clause-means
returns-in-Err-clause-means g c =
    let lost = c.in-Err.ensures.err in
    let means = rw c.deref_mut.ensures.value at c.take_all.ensures.means in
    means_lost (book c.args.pass.now).reads (holding c.requires.plan) (book c.args.pass.now) (book c.take_all.new.pass) means lost.0 lost.2.0 c.in-Err.conflict.address c.in-Err.conflict.word (book c.tick_checked.new.pass)
    (book c.give_back.new.pass) lost.2.1 c.give_back.ensures.wants

pub returns-in-Err-clause-other : goal.returns-in-Err-clause-other
returns-in-Err-clause-other g c =
    let ok = c.in_ok-take_all.ensures.ok in
    let taken : List Stripe = c.take_all.new.stripes in
    let same : addresses_of taken ≡ addresses_of c.args.plan.stripes.items = ok.2 ∙ ap addresses_of c.deref_mut.ensures.value in
    let free : All (λ (a : ℕ). lookup (book c.take_all.new.pass).face.held (a % 4096) ≡ none) c.deref.result.now = rw c.deref.ensures.value (elsewhere_free (book c.args.pass.now).reads (holding c.requires.plan) taken same (book c.take_all.new.pass) ok.1) in
    rw ok.0.rest.number at (c.in-Err.ensures.other free)

pub returns-in-Err-clause-sole : goal.returns-in-Err-clause-sole
returns-in-Err-clause-sole g c = λ whole.
    let ok = c.in_ok-take_all.ensures.ok in
    let taken : List Stripe = c.take_all.new.stripes in
    let same : addresses_of taken ≡ addresses_of c.args.plan.stripes.items = ok.2 ∙ ap addresses_of c.deref_mut.ensures.value in
    let free : All (λ (a : ℕ). lookup (book c.take_all.new.pass).face.held (a % 4096) ≡ none) c.deref.result.now = rw c.deref.ensures.value (elsewhere_free (book c.args.pass.now).reads (holding c.requires.plan) taken same (book c.take_all.new.pass) ok.1) in
    c.in-Err.ensures.sole (ok.0.rest.numbers ∙ whole) free

pub returns-in_err-take_all-clause-same : goal.returns-in_err-take_all-clause-same
returns-in_err-take_all-clause-same g c = c.take_all.ensures.same

pub returns-in_err-take_all-clause-free : goal.returns-in_err-take_all-clause-free
returns-in_err-take_all-clause-free g c = (c.in_err-take_all.ensures.err.1, c.in_err-take_all.ensures.err.2)

pub returns-in_err-take_all-clause-ok : goal.returns-in_err-take_all-clause-ok
returns-in_err-take_all-clause-ok g c = IfOk-from_err _ _ c.from_residual.ensures.0

pub returns-in_err-take_all-clause-err : goal.returns-in_err-take_all-clause-err
returns-in_err-take_all-clause-err g c =
    let rest = c.in_err-take_all.ensures.err.0 in
    err_says c.from_residual.result c.from_residual.ensures.1 (λ e q. rw q (0, omega arith, rest))

pub returns-in_err-take_all-clause-other : goal.returns-in_err-take_all-clause-other
returns-in_err-take_all-clause-other g c = err_says c.from_residual.result c.from_residual.ensures.1 (λ e q. rw q c.in_err-take_all.ensures.other)

pub returns-in-Ok-clause-same : goal.returns-in-Ok-clause-same
returns-in-Ok-clause-same g c =
    let step = c.release_all.ensures.same in
    let store = c.store_all.ensures.same in
    let tick = c.tick_checked.ensures.same in
    let take = c.take_all.ensures.same in
    (step.0 ∙ store.0 ∙ tick.0 ∙ take.0, step.1 ∙ store.1 ∙ tick.1 ∙ take.1)

pub returns-in-Ok-clause-free : goal.returns-in-Ok-clause-free
returns-in-Ok-clause-free g c = c.release_all.ensures.free

pub returns-in-Err-clause-same : goal.returns-in-Err-clause-same
returns-in-Err-clause-same g c =
    let step = c.give_back.ensures.same in
    let tick = c.tick_checked.ensures.same in
    let take = c.take_all.ensures.same in
    (step.0 ∙ tick.0 ∙ take.0, step.1 ∙ tick.1 ∙ take.1)

pub take_all-requires-clause-table : goal.take_all-requires-clause-table
take_all-requires-clause-table g c = c.requires.table

pub take_all-requires-clause-ready : goal.take_all-requires-clause-ready
take_all-requires-clause-ready g c = (c.requires.ready.0, c.requires.ready.1, c.requires.ready.2)

pub take_all-requires-clause-settled : goal.take_all-requires-clause-settled
take_all-requires-clause-settled g c = c.requires.settled

pub take_all-requires-clause-ascending : goal.take_all-requires-clause-ascending
take_all-requires-clause-ascending g c = rw c.deref_mut.ensures.value c.requires.plan.ascending

pub returns-in_err-take_all-clause-sole : goal.returns-in_err-take_all-clause-sole
returns-in_err-take_all-clause-sole g c = λ whole. let no : false ≡ true = c.in_err-take_all.ensures.sole whole in cc no

pub release_all-requires-clause-table : goal.release_all-requires-clause-table
release_all-requires-clause-table g c = c.store_all.ensures.same.0 ∙ c.tick_checked.ensures.same.0 ∙ c.take_all.ensures.same.0 ∙ c.requires.table

pub release_all-requires-clause-stage : goal.release_all-requires-clause-stage
release_all-requires-clause-stage g c = ap (λ (b : Book). b.face.stage) c.store_all.ensures.book.2

pub release_all-requires-clause-left : goal.release_all-requires-clause-left
release_all-requires-clause-left g c = λ b x e. c.store_all.ensures.book.1 b x (sym (ap (λ (k : Book). lookup k.face.left b) c.store_all.ensures.book.2) ∙ e)

pub release_all-requires-clause-held : goal.release_all-requires-clause-held
release_all-requires-clause-held g c =
    let taken : List Stripe = c.take_all.new.stripes in
    let many : c.args.plan.stripes.len ≡ length taken = omega arith in
    let same : c.deref-in-Ok.result.now ≡ taken = rw (c.deref-in-Ok.ensures.value, many) (take-append_seam taken _) in
    rw same (subst (λ (m : Map ℕ). IsListed m (words_of taken)) (sym (ap (λ (b : Book). b.face.held) c.store_all.ensures.book.2 ∙ ap (λ (b : Book). b.face.held) c.in-Ok.ensures.ok.1.1)) c.in_ok-take_all.ensures.ok.1)

pub give_back-requires-clause-table : goal.give_back-requires-clause-table
give_back-requires-clause-table g c = c.tick_checked.ensures.same.0 ∙ c.take_all.ensures.same.0 ∙ c.requires.table

pub give_back-requires-clause-held : goal.give_back-requires-clause-held
give_back-requires-clause-held g c =
    let taken : List Stripe = c.take_all.new.stripes in
    let many : c.args.plan.stripes.len ≡ length taken = omega arith in
    let same : c.deref-in-Err.result.now ≡ taken = rw (c.deref-in-Err.ensures.value, many) (take-append_seam taken _) in
    rw same (subst (λ (m : Map ℕ). IsListed m (words_of taken)) (sym (ap (λ (b : Book). b.face.held) c.in-Err.ensures.err.2.1)) c.in_ok-take_all.ensures.ok.1)
