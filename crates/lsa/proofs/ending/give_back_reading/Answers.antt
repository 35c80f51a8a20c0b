use Rattle.std.proofs.Common.{◌≡◌, ◌+◌, [], ◌∷◌, true, false, drop, slice_index_or, refl, sym, ◌∙◌}
use Rattle.std.proofs.lemmas.List.{drop_more, drop_all}
use Rattle.jmodel.specs.history.Log.{access}
use Rattle.tx_table.specs.Book.{Unticked}
use Rattle.tx_table.specs.Passes.{book, IsSame}
use Rattle.tl2.specs.declared.plan.Stripe.{Stripe}
use Rattle.tl2.specs.Commits.{Holds}
use Rattle.tl2.specs.Plans.{number_of, words_of}
use Rattle.tl2.proofs.Listed.{listed_less, none_listed}
use Rattle.tl2.proofs.Rests.{rest_given}
use Rattle.lsa.proofs.ending.give_back_reading.Goals as goal

pub loop-stripe-preserved : goal.loop-stripe-preserved
loop-stripe-preserved g c =
    let i = c.loop-stripe.invariant in
    let n = c.loop-stripe.stripe-index in
    let s : Stripe = slice_index_or c.args.held.now n (record { address = 0; was_read = false; word = 0 }) in
    let now : Holds (s ∷ drop (n + 1) c.args.held.now) (book c.loop-stripe.pass) = rw (drop_more c.args.held.now n (record { address = 0; was_read = false; word = 0 }) c.loop-stripe-test.true) at i.held in
    let same : IsSame c.args.pass.now c.release_old.new.self = (c.release_old.ensures.same.0 ∙ i.same.0, c.release_old.ensures.same.1 ∙ i.same.1) in
    let settled = rw c.release_old.ensures.book at (c.release_old.ensures.settled i.settled) in
    rw (c.release_old.ensures.book, c.number.ensures) (record {
      same = same;
      held = listed_less (book c.loop-stripe.pass).face.held (access (number_of s) s.word) (words_of (drop (n + 1) c.args.held.now)) now;
      live = refl;
      stage = refl {a = Unticked};
      settled = settled;
      rest = rest_given [] 0 (book c.args.pass.now) (book c.loop-stripe.pass) (number_of s) true i.rest;
      seen = i.seen;
      wants = i.wants;
    })

pub returns-clause-free : goal.returns-clause-free
returns-clause-free g c =
    let over : drop c.loop-stripe.stripe-index c.args.held.now ≡ [] = drop_all c.loop-stripe.stripe-index c.args.held.now c.loop-stripe-test.false in
    none_listed (book c.loop-stripe.pass).face.held (rw over at c.loop-stripe.invariant.held)
