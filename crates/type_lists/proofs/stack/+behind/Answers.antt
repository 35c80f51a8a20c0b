use Rattle.std.proofs.Common.{rules, ◌≡◌, ◌++◌, ◌<◌, IfOk, subst, drop, length}
use Rattle.type_lists.proofs.Drops.{in_left}
use Rattle.type_lists.proofs.stack.+behind.Goals as goal

pub returns-then-count-len : goal.returns-then-count-len
returns-then-count-len t c =
    let xs = c.args.part.now in
    let u = c.args.under.now.value in
    let l = c.in_ok-left.left in
    let r = c.in_ok-left.right in
    let above : c.in_ok-under.under.value ≡ r ++ u = search rules in
    let less : c.args.count < length l = search rules in
    let is : drop c.args.count l ++ c.in_ok-under.under.value ≡ drop c.args.count xs ++ u = rw above (in_left c.args.count _ xs l r u c.in_ok-left.ensures.left c.in_ok-left.ensures.right less) in
    subst (λ v. IfOk c.behind.result (λ s. s ≡ v)) is c.behind.ensures
