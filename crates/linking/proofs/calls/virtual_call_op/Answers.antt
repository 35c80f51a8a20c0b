use Rattle.std.proofs.Common.{◌≡◌, Option, sym, subst, ◌∙◌}
use Rattle.std.specs.Prelude.{IfOk}
use Rattle.objects.specs.declared.op.Op.{Op}
use Rattle.linking.proofs.CallOps.{of_context, of_object}
use Rattle.linking.proofs.calls.virtual_call_op.Goals as goal

pub returns-then-is_of_context : goal.returns-then-is_of_context
returns-then-is_of_context c = c.context_op.ensures ∙ of_context c.args.symbols.now c.args.r.now (sym c.is_of_context.ensures ∙ c.if-is_of_context.true)

pub returns-else-is_of_context : goal.returns-else-is_of_context
returns-else-is_of_context c =
    subst (λ (x : Option Op). IfOk c.object_call_op.result (λ o. o ≡ x)) (of_object c.args.symbols.now c.args.r.now (sym c.is_of_context.ensures ∙ c.if-is_of_context.false)) c.object_call_op.ensures
