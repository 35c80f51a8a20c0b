use Rattle.std.proofs.Common.{◌≡◌, ◌+◌, [], ◌∷◌, false, drop, slice_index_or, ap, ◌∙◌, arith}
use Rattle.std.proofs.lemmas.List.{drop_more, drop_all}
use mathlib.Core.Option.{some}
use Rattle.jmodel.specs.history.Log.{access}
use Rattle.tx_table.specs.Book.{lookup}
use Rattle.tx_table.specs.Passes.{book, IsSame}
use Rattle.tl2.specs.declared.plan.Stripe.{Stripe}
use Rattle.tl2.specs.Commits.{Holds}
use Rattle.tl2.specs.Plans.{number_of, words_of}
use Rattle.tl2.proofs.Listed.{listed_here, listed_less, none_listed}
use Rattle.tl2.proofs.Rests.{rest_released, releasing_one, decided_still, over}
use Rattle.tl2.proofs.commit.release_all.Goals as goal

pub release_new-requires-clause-ready : goal.release_new-requires-clause-ready
release_new-requires-clause-ready g c =
    let i = c.loop-stripe.invariant in
    let n = c.loop-stripe.stripe-index in
    let s : Stripe = slice_index_or c.args.held.now n (record { address = 0; was_read = false; word = 0 }) in
    let held = (book c.loop-stripe.pass).face.held in
    let now : Holds (s ∷ drop (n + 1) c.args.held.now) (book c.loop-stripe.pass) = rw (drop_more c.args.held.now n (record { address = 0; was_read = false; word = 0 }) c.loop-stripe-test.true) at i.held in
    let has : lookup held c.number.result ≡ some s.word = ap (lookup held) c.number.ensures ∙ listed_here held (access (number_of s) s.word) (words_of (drop (n + 1) c.args.held.now)) now in
    (let e = c.number.ensures in omega arith, decided_still (book c.loop-stripe.pass) c.number.result s.word i.releasing has, i.left, (s.word, has))

pub loop-stripe-preserved : goal.loop-stripe-preserved
loop-stripe-preserved g c =
    let i = c.loop-stripe.invariant in
    let n = c.loop-stripe.stripe-index in
    let s : Stripe = slice_index_or c.args.held.now n (record { address = 0; was_read = false; word = 0 }) in
    let now : Holds (s ∷ drop (n + 1) c.args.held.now) (book c.loop-stripe.pass) = rw (drop_more c.args.held.now n (record { address = 0; was_read = false; word = 0 }) c.loop-stripe-test.true) at i.held in
    let same : IsSame c.args.pass.now c.release_new.new.self = (c.release_new.ensures.same.0 ∙ i.same.0, c.release_new.ensures.same.1 ∙ i.same.1) in
    rw (c.release_new.ensures.book, c.number.ensures) (record {
      same = same;
      held = listed_less (book c.loop-stripe.pass).face.held (access (number_of s) s.word) (words_of (drop (n + 1) c.args.held.now)) now;
      releasing = releasing_one (book c.loop-stripe.pass) (number_of s);
      left = i.left;
      rest = rest_released [] 0 (book c.args.pass.now) (book c.loop-stripe.pass) (number_of s) c.requires.stage i.rest;
      wants = i.wants;
    })

pub returns-clause-free : goal.returns-clause-free
returns-clause-free g c =
    let i = c.loop-stripe.invariant in
    let all : drop c.loop-stripe.stripe-index c.args.held.now ≡ [] = drop_all c.loop-stripe.stripe-index c.args.held.now c.loop-stripe-test.false in
    let none = none_listed (book c.loop-stripe.pass).face.held (rw all at i.held) in
    (none, over (book c.loop-stripe.pass) i.releasing none)
