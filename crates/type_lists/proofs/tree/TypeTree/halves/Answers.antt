use Rattle.std.proofs.Common.{◌≡◌, ◌≤◌, ◌∙◌, ◌/◌, ap, arith, length, replicate, take}
use Rattle.type_lists.proofs.Runs.{run_left}
use Rattle.type_lists.proofs.tree.TypeTree.halves.Goals as goal

pub returns-in_ok-share-in-Run-2-clause-left : goal.returns-in_ok-share-in-Run-2-clause-left
returns-in_ok-share-in-Run-2-clause-left c =
    let ts = c.args.self.now in
    let half = c.len-half.result / 2 in
    let less : half ≤ length ts = omega (arith, c.len-half.ensures) in
    c.run-left.ensures ∙ ap (replicate half) c.in_ok-share-in-Run.ensures ∙ run_left half (length ts) ts c.in-Run.item.now c.in-Run.ensures.0 less ∙ ap (λ n. take (n / 2) ts) c.len-half.ensures
