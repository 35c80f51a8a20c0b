use Rattle.std.proofs.Common.{◌≡◌, ◌<◌, ◌≤◌, ◌++◌, ◌-◌, ◌∙◌, IfOk, sym, ap, subst, arith, slice_set, length}
use Rattle.type_lists.specs.Trees.{types}
use Rattle.type_lists.proofs.Runs.{set_same, set_before, set_behind}
use Rattle.type_lists.proofs.tree.TypeTree.+set.Goals as goal

pub returns-then-is_same : goal.returns-then-is_same
returns-then-is_same t c =
    let e = sym (ap (types c.self.inside.len) c.in-Run.is) ∙ c.self.view_is in
    let s = c.is_same.ensures.0 c.if-is_same.true in
    let x = subst (λ v. slice_set c.args.self.now c.args.at v ≡ c.args.self.now) (sym c.as_type.ensures ∙ s ∙ c.as_type-in-Run.ensures) (subst (λ v. slice_set v c.args.at c.in-Run.old ≡ v) e (set_same c.self.inside.len c.args.at c.in-Run.old)) in
    subst (λ v. IfOk c.share-then-is_same.result (λ t'. t' ≡ v)) (sym x) c.share-then-is_same.ensures

pub returns-in_ok-left-in-Fork : goal.returns-in_ok-left-in-Fork
returns-in_ok-left-in-Fork t c =
    let l = c.in-Fork.left.value in
    let r = c.in-Fork.right.value in
    let e = sym (ap (types c.self.inside.len) c.in-Fork.is) ∙ c.self.view_is in
    let less : c.args.at < length l = subst (λ k. c.args.at < k) (c.len-in-Fork.ensures ∙ ap length c.deref.ensures) c.if-at-len-2.true in
    let x : slice_set c.args.self.now c.args.at c.args.item ≡ slice_set l c.args.at c.args.item ++ r = subst (λ v. slice_set v c.args.at c.args.item ≡ slice_set l c.args.at c.args.item ++ r) e (set_before l r c.args.at c.args.item less) in
    let y : c.in_ok-left-in-Fork.left ++ r ≡ slice_set c.args.self.now c.args.at c.args.item = rw (c.in_ok-left-in-Fork.ensures, c.deref-then-at-len-2.ensures) (sym x) in
    subst (λ v. IfOk c.with_left.result (λ t'. t' ≡ v)) y c.with_left.ensures

pub returns-in_ok-right-in-Fork : goal.returns-in_ok-right-in-Fork
returns-in_ok-right-in-Fork t c =
    let l = c.in-Fork.left.value in
    let r = c.in-Fork.right.value in
    let e = sym (ap (types c.self.inside.len) c.in-Fork.is) ∙ c.self.view_is in
    let len : c.len-in-Fork.result ≡ length l = c.len-in-Fork.ensures ∙ ap length c.deref.ensures in
    let past : length l ≤ c.args.at = omega (arith, len, c.if-at-len-2.false) in
    let x : slice_set c.args.self.now c.args.at c.args.item ≡ l ++ slice_set r (c.args.at - length l) c.args.item = subst (λ v. slice_set v c.args.at c.args.item ≡ l ++ slice_set r (c.args.at - length l) c.args.item) e (set_behind l r c.args.at c.args.item past) in
    let y : l ++ c.in_ok-right-in-Fork.right ≡ slice_set c.args.self.now c.args.at c.args.item = rw (c.in_ok-right-in-Fork.ensures, c.len-else-at-len-2.ensures, c.deref-else-at-len-2.ensures, c.deref-else-at-len-2-2.ensures) (sym x) in
    subst (λ v. IfOk c.with_right.result (λ t'. t' ≡ v)) y c.with_right.ensures
