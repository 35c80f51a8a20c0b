use Rattle.std.proofs.Common.{rules, ◌∙◌, true, false, ap, length, length-append, arith, option_and_then}
use Rattle.std.proofs.lemmas.List.Folds.{list_any-append}
use Rattle.type_lists.specs.Stacks.{under_all}
use Rattle.type_lists.proofs.Places.{fork_under}
use Rattle.type_lists.proofs.tree.TypeTree.fork.Goals as goal

pub invariant_of-result : goal.invariant_of-result
invariant_of-result c =
    let l = c.args.left.value in
    let r = c.args.right.value in
    record {
      len = search (rules, length-append, arith);
      named = search (rules, list_any-append);
      plain = fork_under false l r _ _ (c.under_all.ensures ∙ ap (under_all false) c.deref-5.ensures) (c.then_under-plain.ensures ∙ ap (λ ys. option_and_then (λ v. under_all v ys) c.under_all.result) c.deref-4.ensures);
      under = fork_under true l r _ _ (c.under_all-2.ensures ∙ ap (under_all true) c.deref-7.ensures) (c.then_under-under.ensures ∙ ap (λ ys. option_and_then (λ v. under_all v ys) c.under_all-2.result) c.deref-6.ensures);
      parts = search rules;
    }
