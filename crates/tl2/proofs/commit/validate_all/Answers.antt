use Rattle.std.proofs.Common.{◌%◌, ℕ, ◌∙◌, refl, sym, ap, subst}
use Rattle.std.proofs.lemmas.List.{take_all}
use Rattle.std.proofs.lemmas.List.Elements.{All-nil}
use Rattle.tx_table.specs.Book.{Book, In}
use Rattle.tx_table.specs.Passes.{book, IsSame}
use Rattle.tl2.proofs.Members.{in_at}
use Rattle.tl2.proofs.Stripes.{checked_more}
use Rattle.tl2.proofs.Rests.{err_says}
use Rattle.tl2.proofs.commit.validate_all.Goals as goal

pub loop-address-init : goal.loop-address-init
loop-address-init g c = let v = book c.args.pass.now in record { same = (refl, refl); checked = (v.checked, refl, All-nil (λ (a : ℕ). In (a % 4096) v.checked)); settled = c.requires.settled }

pub loop-address-preserved : goal.loop-address-preserved
loop-address-preserved g c =
    let i = c.loop-address.invariant in
    let same : IsSame c.args.pass.now c.validate.new.self = (c.validate.ensures.same.0 ∙ i.same.0, c.validate.ensures.same.1 ∙ i.same.1) in
    rw c.in_ok-validate.ensures.ok (record {
      same = same;
      checked = checked_more c.args.addresses.now c.loop-address.address-index (book c.args.pass.now) (book c.loop-address.pass) c.loop-address-test.true i.checked;
      settled = rw c.in_ok-validate.ensures.ok at (c.validate.ensures.settled refl i.settled);
    })

pub returns-clause-ok : goal.returns-clause-ok
returns-clause-ok g c = rw (take_all c.loop-address.address-index c.args.addresses.now c.loop-address-test.false) at c.loop-address.invariant.checked

pub returns-in_err-validate-clause-conflict : goal.returns-in_err-validate-clause-conflict
returns-in_err-validate-clause-conflict g c =
    let k = c.in_err-validate.ensures.conflict in
    let i = c.loop-address.invariant in
    let back = c.from_residual.ensures in
    let here = subst (λ (a : ℕ). In a c.args.addresses.now) (sym k.0) (in_at c.args.addresses.now c.loop-address.address-index c.loop-address-test.true) in
    let bound = ap (λ (b : Book). b.bound) i.checked.1 in
    err_says c.from_residual.result back.1 (λ e q. rw q (k.1 ∙ bound, rw bound at c.in_err-validate.ensures.err.0, here))
