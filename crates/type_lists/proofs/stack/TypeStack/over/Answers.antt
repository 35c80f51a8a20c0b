use Rattle.std.proofs.Common.{rules, ◌∙◌, true, false, ap, length, length-append, arith}
use Rattle.type_lists.specs.Named.{are_named}
use Rattle.type_lists.specs.Stacks.{is_stack_under, some_and, under_all}
use Rattle.type_lists.proofs.Places.{named_part, named_under, over_under}
use Rattle.type_lists.proofs.stack.TypeStack.over.Goals as goal
use Rattle.type_lists.proofs.stack.TypeStack.over.Goals.{then-has_names, else-has_names}

pub invariant_of-result : goal.invariant_of-result
invariant_of-result c =
    let p = c.args.part in
    let r = c.args.rest.value in
    record {
      depth = search (rules, length-append, arith);
      whole = over_under false p r _ _ c.under_all.ensures (c.may_lie-whole.ensures ∙ ap (λ s. some_and c.under_all.result (λ v. is_stack_under v s)) c.deref-2.ensures);
      under = over_under true p r _ _ c.under_all-2.ensures (c.may_lie-under.ensures ∙ ap (λ s. some_and c.under_all-2.result (λ v. is_stack_under v s)) c.deref-3.ensures);
      named = elim c.if-has_names.branch [
        | then-has_names w ↦ w.named-is ∙ named_part p r _ w.if-has_names.true c.has_names.ensures
        | else-has_names w ↦ w.named-is ∙ named_under p r _ _ w.if-has_names.false c.has_names.ensures (w.behind-rest-else-has_names.invariant.named ∙ ap are_named (w.behind-rest-else-has_names.view_is ∙ w.deref-else-has_names.ensures))
      ];
      part = c.requires;
    }
