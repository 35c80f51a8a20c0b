use Rattle.std.proofs.Common.{◌≡◌, ◌<◌, ◌≤◌, ◌/◌, IfOk, subst, arith}
use Rattle.type_lists.proofs.Runs.{in_before, in_behind}
use Rattle.type_lists.proofs.tree.+set_in_run.Goals as goal

pub returns-in_ok-share : goal.returns-in_ok-share
returns-in_ok-share t c =
    let less : c.args.len / 2 < c.args.len = omega (arith, c.requires) in
    subst (λ v. IfOk c.pair.result (λ t'. t' ≡ v)) (rw (c.in_ok-left.ensures, c.run-right.ensures, c.in_ok-share.ensures) (in_before c.args.len (c.args.len / 2) c.args.at c.args.old.now c.args.item c.if-at-half.true less)) c.pair.ensures

pub returns-in_ok-right : goal.returns-in_ok-right
returns-in_ok-right t c =
    let less : c.args.len / 2 < c.args.len = omega (arith, c.requires) in
    let past : c.args.len / 2 ≤ c.args.at = omega (arith, c.if-at-half.false) in
    subst (λ v. IfOk c.pair-else-at-half.result (λ t'. t' ≡ v)) (rw (c.in_ok-right.ensures, c.run-left.ensures, c.in_ok-share-2.ensures) (in_behind c.args.len (c.args.len / 2) c.args.at c.args.old.now c.args.item past less)) c.pair-else-at-half.ensures
