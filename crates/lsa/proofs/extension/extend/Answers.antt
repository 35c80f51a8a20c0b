use Rattle.std.proofs.Common.{◌≡◌, ◌+◌, ◌%◌, ◌∙◌, ℕ, true, false, drop, slice_index, refl, sym, ap, subst}
use Rattle.tx_table.specs.Book.{Book, In}
use Rattle.tx_table.specs.Passes.{book}
use Rattle.tl2.proofs.Members.{in_at}
use Rattle.tl2.proofs.Rests.{err_says}
use Rattle.lsa.specs.Owning.{all_own, is_own, Tells}
use Rattle.lsa.proofs.Extending.{all_held, going_first, going_own, going_open, going_covers, going_passed, going_free, going_lost, going_last}
use Rattle.lsa.proofs.extension.extend.Goals as goal
use Rattle.lsa.proofs.extension.extend.Goals.{then-not-lies_on_own+in_ok-validate_at, else-not-lies_on_own}

pub open_over-requires : goal.open_over-requires
open_over-requires g c κs within = (
  within,
  (refl, (c.requires.table, (c.requires.settled, (c.requires.ready, all_held c.args.own.now c.args.wanted c.args.reads.now (book c.args.pass.now) c.requires.reads c.requires.own)))),
)

pub validate_at-requires : goal.validate_at-requires
validate_at-requires g c κs within =
    let own = c.args.own.now in
    let wanted = c.args.wanted in
    let reads = c.args.reads.now in
    let v = book c.args.pass.now in
    let w = book c.loop-i.pass in
    let i = c.loop-i.i in
    let k = c.loop-i.invariant in
    let other : is_own own wanted (slice_index reads i % 4096) ≡ false = sym c.lies_on_own.ensures ∙ c.if-not-lies_on_own.true in
    let o = going_open own wanted reads v c.requires.reads c.requires.own i c.loop-i-test.true k.going.0 w other k.going.2 in (
      within,
      (
        refl,
        (
          k.same.0 ∙ c.requires.table,
          (
            c.loop-i-test.true,
            (
              c.requires.heap,
              (
                k.still ∙ c.requires.settled.0 ∙ sym (ap (λ (b : Book). b.bound) o.1),
                (
                  ap (λ (b : Book). b.live) o.1 ∙ c.requires.ready.1,
                  going_covers own wanted reads v c.requires.reads c.requires.own i c.loop-i-test.true k.going.0 w other k.going.2 c.requires.ready.0 (all_own own wanted (drop (i + 1) reads)) refl,
                ),
              ),
            ),
          ),
        ),
      ),
    )

pub returns-in_err-validate_at-clause-err : goal.returns-in_err-validate_at-clause-err
returns-in_err-validate_at-clause-err g c =
    let own = c.args.own.now in
    let wanted = c.args.wanted in
    let reads = c.args.reads.now in
    let v = book c.args.pass.now in
    let w = book c.loop-i.pass in
    let i = c.loop-i.i in
    let k = c.loop-i.invariant in
    let other : is_own own wanted (slice_index reads i % 4096) ≡ false = sym c.lies_on_own.ensures ∙ c.if-not-lies_on_own.true in
    let f = c.in_err-validate_at.ensures in
    let free = going_free own wanted reads v c.requires.reads c.requires.own i c.loop-i-test.true k.going.0 w other k.going.2 in
    let lost = going_lost own wanted reads v c.requires.reads c.requires.own i c.loop-i-test.true k.going.0 w other k.going.2 (book c.validate_at.new.pass) c.in_err-validate_at.field-0.0
    f.conflict.0 f.conflict.1 f.err.0 (f.other free) f.err.1 in
    let back = c.from_residual.ensures in
    err_says c.from_residual.result back.1 (λ e q. rw q lost)

pub returns-in_err-validate_at-clause-address : goal.returns-in_err-validate_at-clause-address
returns-in_err-validate_at-clause-address g c =
    let f = c.in_err-validate_at.ensures.conflict in
    let here = subst (λ (a : ℕ). In a c.args.reads.now) (sym f.0) (in_at c.args.reads.now c.loop-i.i c.loop-i-test.true) in
    let back = c.from_residual.ensures in
    err_says c.from_residual.result back.1 (λ e q. rw q here)

pub loop-i-preserved : goal.loop-i-preserved
loop-i-preserved g c =
    let own = c.args.own.now in
    let wanted = c.args.wanted in
    let reads = c.args.reads.now in
    let v = book c.args.pass.now in
    let i = c.loop-i.i in
    let k = c.loop-i.invariant in
    elim c.if-not-lies_on_own.branch [
      | then-not-lies_on_own+in_ok-validate_at w ↦ (
          let other : is_own own wanted (slice_index reads i % 4096) ≡ false = sym c.lies_on_own.ensures ∙ w.if-not-lies_on_own.true in
          let next = going_passed own wanted reads v c.requires.reads c.requires.own i c.loop-i-test.true k.going.0 (book c.loop-i.pass) other k.going.2 (all_own own wanted (drop (i + 1) reads))
          (book w.validate_at.new.pass) refl w.in_ok-validate_at.ensures.ok in
          rw w.pass-is (record {
            same = (w.validate_at.ensures.same.0 ∙ k.same.0, w.validate_at.ensures.same.1 ∙ k.same.1);
            still = w.validate_at.ensures.still ∙ k.still;
            going = (k.going.0, k.going.1, next);
          }))
      | else-not-lies_on_own w ↦ (
          let here : is_own own wanted (slice_index reads i % 4096) ≡ true = sym c.lies_on_own.ensures ∙ w.if-not-lies_on_own.false in
          let next = going_own own wanted reads v c.requires.reads c.requires.own i c.loop-i-test.true k.going.0 (book c.loop-i.pass) here k.going.2 in
          rw w.pass-is (record { same = k.same; still = k.still; going = (k.going.0, k.going.1, next) }))
    ]
