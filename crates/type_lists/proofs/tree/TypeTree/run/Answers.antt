use Rattle.std.proofs.Common.{◌<◌, sym, ◌∙◌, arith, ap, true, false, replicate}
use Rattle.std.proofs.lemmas.List.{length-replicate}
use Rattle.type_lists.specs.Named.{is_named}
use Rattle.type_lists.specs.Stacks.{under_all}
use Rattle.type_lists.proofs.Runs.{run_named}
use Rattle.type_lists.proofs.tree.TypeTree.run.Goals as goal

pub invariant_of-result : goal.invariant_of-result
invariant_of-result c =
    let some : 0 < c.args.len = omega (arith, c.if-len-eq0.false) in
    record {
      len = sym (length-replicate c.args.len c.args.item);
      named = c.is_named.ensures ∙ ap is_named c.as_type.ensures ∙ run_named c.args.len c.args.item some;
      plain = c.under_run.ensures ∙ ap (λ t. under_all false (replicate c.args.len t)) c.as_type-2.ensures;
      under = c.under_run-2.ensures ∙ ap (λ t. under_all true (replicate c.args.len t)) c.as_type-3.ensures;
      parts = some;
    }
