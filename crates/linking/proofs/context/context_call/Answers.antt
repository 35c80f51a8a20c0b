use Rattle.std.proofs.Common.{◌∙◌}
use Rattle.linking.proofs.ContextOrder.{by_order}
use Rattle.linking.proofs.context.context_call.Goals as goal

pub returns : goal.returns
returns c = c.first_call.ensures ∙ by_order c.args.r.now
