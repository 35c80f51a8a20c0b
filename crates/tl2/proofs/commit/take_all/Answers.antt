use Rattle.std.proofs.Common.{◌≡◌, ◌<◌, ◌+◌, ◌%◌, ℕ, false, true, length, slice_index_or, sym, ap, ◌∙◌, inr, ⊎_elim, subst, arith}
use Rattle.std.proofs.lemmas.List.{drop-set-lt}
use Rattle.tx_table.specs.Book.{Book, In}
use Rattle.tx_table.specs.Passes.{book, IsSame}
use Rattle.tx_table.specs.Steps.{IsPast}
use Rattle.tl2.specs.declared.plan.Stripe.{Stripe}
use Rattle.tl2.specs.Plans.{addresses_of, number_of}
use Rattle.tl2.proofs.Members.{all_from}
use Rattle.tl2.proofs.Stripes.{holds_at, not_before, same_later, addresses_kept, held_more}
use Rattle.tl2.proofs.Rests.{taking_one}
use Rattle.tl2.proofs.commit.take_all.Goals as goal

pub take_one-requires-clause-heap : goal.take_one-requires-clause-heap
take_one-requires-clause-heap g c =
    let more : c.loop-i.i < length c.loop-i.stripes = omega arith in
    holds_at (λ a. a < c.args.shared.now.words) c.loop-i.stripes c.args.stripes.now c.loop-i.i more c.loop-i.invariant.addresses c.requires.heap

pub take_one-requires-clause-read : goal.take_one-requires-clause-read
take_one-requires-clause-read g c = λ b x i e.
    let before : In (b, x) (book c.args.pass.now).reads = rw c.loop-i.invariant.taking.rest.reads at i in
    let more : c.loop-i.i < length c.loop-i.stripes = omega arith in
    let most : c.loop-i.i < length c.args.stripes.now = omega arith in
    let same = same_later c.loop-i.stripes c.args.stripes.now c.loop-i.i more most c.loop-i.invariant.later in
    subst (λ (s : Stripe). b % 4096 ≡ number_of s → s.was_read ≡ true) (sym same.0) (c.requires.read b x before c.loop-i.i (record { address = 0; was_read = false; word = 0 }) most) e

pub returns-in-Err-clause-conflict : goal.returns-in-Err-clause-conflict
returns-in-Err-clause-conflict g c =
    let k = c.in-Err.ensures.conflict in
    let bound = c.loop-i.invariant.taking.rest.bound in
    let all = addresses_of c.args.stripes.now in
    let more : c.loop-i.i < length c.loop-i.stripes = omega arith in (
      k.1 ∙ bound,
      subst (λ (n : ℕ). IsPast n c.in-Err.conflict.word) bound k.2,
      subst (λ (a : ℕ). In a all) (sym k.0) (holds_at (λ a. In a all) c.loop-i.stripes c.args.stripes.now c.loop-i.i more c.loop-i.invariant.addresses (all_from (λ a. In a all) all (λ a i. i))),
    )

pub returns-in-Err-clause-other : goal.returns-in-Err-clause-other
returns-in-Err-clause-other g c =
    let i = c.loop-i.invariant in
    let more : c.loop-i.i < length c.loop-i.stripes = omega arith in
    let free = not_before c.loop-i.stripes c.args.stripes.now (book c.loop-i.pass).face.held c.loop-i.i more i.addresses c.requires.ascending i.held in
    rw i.taking.rest.number at (c.in-Err.ensures.other free)

pub returns-in-Err-clause-sole : goal.returns-in-Err-clause-sole
returns-in-Err-clause-sole g c = λ whole.
    let i = c.loop-i.invariant in
    let more : c.loop-i.i < length c.loop-i.stripes = omega arith in
    let free = not_before c.loop-i.stripes c.args.stripes.now (book c.loop-i.pass).face.held c.loop-i.i more i.addresses c.requires.ascending i.held in
    c.in-Err.ensures.sole (i.taking.rest.numbers ∙ whole) free

pub returns-in-Err-clause-means : goal.returns-in-Err-clause-means
returns-in-Err-clause-means g c = λ a i.
    c.loop-i.invariant.means a (subst (In a) (c.give_back.ensures.wants ∙ ap (λ (b : Book). b.wants) c.in-Err.ensures.err) i)

pub loop-i-preserved : goal.loop-i-preserved
loop-i-preserved g c =
    let i = c.loop-i.invariant in
    let n = c.loop-i.i in
    let ss = c.loop-i.stripes in
    let s : Stripe = slice_index_or ss n (record { address = 0; was_read = false; word = 0 }) in
    let more : n < length ss = omega arith in
    let most : n < length c.args.stripes.now = omega arith in
    let free = not_before ss c.args.stripes.now (book c.loop-i.pass).face.held n more i.addresses c.requires.ascending i.held in
    let same : IsSame c.args.pass.now c.take_one.new.pass = (c.take_one.ensures.same.0 ∙ i.same.0, c.take_one.ensures.same.1 ∙ i.same.1) in
    let all = addresses_of c.args.stripes.now in
    let here : In s.address all = holds_at (λ a. In a all) ss c.args.stripes.now n more i.addresses (all_from (λ a. In a all) all (λ a j. j)) in
    rw c.in-Ok.ensures.ok (record {
      same = same;
      held = held_more ss n c.in-Ok.word (book c.loop-i.pass).face.held more i.held free;
      addresses = addresses_kept ss n c.in-Ok.word more ∙ i.addresses;
      later = drop-set-lt (n + 1) ss n (record s { word = c.in-Ok.word }) (omega arith) ∙ (same_later ss c.args.stripes.now n more most i.later).1;
      taking = taking_one (book c.args.pass.now) (book c.loop-i.pass) (number_of s) c.in-Ok.word s.address i.taking;
      settled = rw c.in-Ok.ensures.ok at c.take_one.ensures.settled;
      means = λ a. ⊎_elim (λ (e : a ≡ s.address). inr (subst (λ (k : ℕ). In k all) (sym e) here)) (i.means a);
    })

pub take_one-requires-clause-table : goal.take_one-requires-clause-table
take_one-requires-clause-table g c = c.loop-i.invariant.same.0 ∙ c.requires.table

pub take_one-requires-clause-ready : goal.take_one-requires-clause-ready
take_one-requires-clause-ready g c = (c.loop-i.invariant.taking.stage, c.loop-i.invariant.taking.live)

pub take_one-requires-clause-settled : goal.take_one-requires-clause-settled
take_one-requires-clause-settled g c = c.loop-i.invariant.settled

pub give_back-requires-clause-table : goal.give_back-requires-clause-table
give_back-requires-clause-table g c = c.take_one.ensures.same.0 ∙ c.loop-i.invariant.same.0 ∙ c.requires.table

pub returns-in-Err-clause-same : goal.returns-in-Err-clause-same
returns-in-Err-clause-same g c =
    let back = c.give_back.ensures.same in
    let step = c.take_one.ensures.same in
    let was = c.loop-i.invariant.same in
    (back.0 ∙ step.0 ∙ was.0, back.1 ∙ step.1 ∙ was.1)

pub returns-clause-same : goal.returns-clause-same
returns-clause-same g c = c.loop-i.invariant.same

pub returns-clause-settled : goal.returns-clause-settled
returns-clause-settled g c = c.loop-i.invariant.settled
