use Rattle.std.proofs.Common.{◌≡◌, ◌%◌, ◌+◌, ◌++◌, ◌∙◌, ℕ, Bool, true, false, not, cond, List, [], ◌∷◌, filter, take, slice_index, sym, ap}
use Rattle.std.specs.Ordering.{nat_cmp}
use Rattle.std.specs.BTreeSet.{contains}
use Rattle.std.proofs.lemmas.List.{append-nil}
use Rattle.std.proofs.lemmas.List.Elements.{filter_more}
use Rattle.lsa.proofs.update.elsewhere_of.Goals as goal
use Rattle.lsa.proofs.update.elsewhere_of.Goals.{then-not-contains+in_ok-push, else-not-contains}

pub loop-address-preserved : goal.loop-address-preserved
loop-address-preserved c =
    let reads = c.args.reads.now in
    let i = c.loop-address.address-index in
    let off : ℕ → Bool = λ a. not (contains nat_cmp c.args.own.now (a % 4096)) in
    let more = filter_more off reads i 0 c.loop-address-test.true in
    let a : ℕ = slice_index reads i in
    elim c.if-not-contains.branch [
      | then-not-contains+in_ok-push w ↦ (
          let is : off a ≡ true = ap not (sym c.contains.ensures ∙ w.if-not-contains.true) in
          rw (w.read_elsewhere-is, w.in_ok-push.ensures.items) (record {
            elsewhere = ap (λ (xs : List ℕ). xs ++ a ∷ []) c.loop-address.invariant.elsewhere ∙ sym (more ∙ ap (λ (b : Bool). filter off (take i reads) ++ cond b (a ∷ []) []) is);
          }))
      | else-not-contains w ↦ (
          let is : off a ≡ false = ap not (sym c.contains.ensures ∙ w.if-not-contains.false) in
          rw w.read_elsewhere-is (record {
            elsewhere = c.loop-address.invariant.elsewhere ∙ sym (more ∙ ap (λ (b : Bool). filter off (take i reads) ++ cond b (a ∷ []) []) is ∙ append-nil (filter off (take i reads)));
          }))
    ]
