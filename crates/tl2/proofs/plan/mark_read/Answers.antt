use Rattle.std.proofs.Common.{◌≡◌, ◌%◌, ℕ, true, None, Some, List, [], ◌∷◌, ◌++◌, is_some, slice_index, sym, ap, ◌∙◌}
use Rattle.std.specs.Ordering.{nat_cmp}
use Rattle.std.specs.BTreeMap.{get}
use Rattle.std.proofs.lemmas.Result.{IfOk-from_err}
use Rattle.tl2.specs.declared.plan.Stripe.{Stripe}
use Rattle.tl2.proofs.Plans.{marks_found, marks_missed, elsewhere_found, elsewhere_missed}
use Rattle.tl2.proofs.plan.mark_read.Goals as goal
use Rattle.tl2.proofs.plan.mark_read.Goals.{in-Some, in-None+in_ok-push-in-None}

pub loop-address-preserved : goal.loop-address-preserved
loop-address-preserved c =
    let reads = c.args.reads.now in
    let i = c.loop-address.address-index in
    let first = c.args.stripes.now in
    let old = c.loop-address.stripes in
    let more = c.loop-address-test.true in
    let marks = c.loop-address.invariant.marks in
    let number : ℕ = slice_index reads i % 4096 in
    elim c.match-get_mut.branch [
      | in-Some w ↦ (
          let s : Stripe = w.in-Some.stripe.now in
          let found : get nat_cmp old number ≡ Some s = sym w.in-Some.ensures.value in
          let wrote = (c.get_mut.follows.holds (record s { was_read = true })).3 (ap is_some found) in
          rw (w.stripes-is, w.read_elsewhere-is) (record {
            marks = marks_found reads i more first old marks s (c.get_mut.follows.lender (record s { was_read = true })) found wrote.0;
            elsewhere = c.loop-address.invariant.elsewhere ∙ sym (elsewhere_found reads i more first old marks s found);
          }))
      | in-None+in_ok-push-in-None w ↦ (
          let missed : get nat_cmp old number ≡ None = sym w.in-None.ensures.value in
          rw (w.stripes-is, w.read_elsewhere-is, w.in_ok-push-in-None.ensures.items, c.get_mut.follows.holds-at-none) (record {
            marks = marks_missed reads i more first old marks missed;
            elsewhere = ap (λ (xs : List ℕ). xs ++ slice_index reads i ∷ []) c.loop-address.invariant.elsewhere ∙ sym (elsewhere_missed reads i more first old marks missed);
          }))
    ]

pub returns-in_err-push-in-None-clause-elsewhere : goal.returns-in_err-push-in-None-clause-elsewhere
returns-in_err-push-in-None-clause-elsewhere c = IfOk-from_err _ _ c.from_residual.ensures.0
