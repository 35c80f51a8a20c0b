use Rattle.std.proofs.Common.{◌∙◌, sym}
use Rattle.verifier.proofs.Runs.{over_parts, and_rest, and_stop}
use Rattle.verifier.proofs.order.+are_over.Goals as goal

pub returns-then-are_over : goal.returns-then-are_over
returns-then-are_over t c = c.are_over-then-are_over.ensures ∙ and_rest _ _ _ (over_parts c.args.program.now c.args.wide.now c.in-Fork.left.now c.in-Fork.right.now c.args.narrow.now c.in-Fork.ensures.0) (sym c.are_over.ensures ∙ c.if-are_over.true)

pub returns-else-are_over : goal.returns-else-are_over
returns-else-are_over t c = c.if-are_over.false ∙ and_stop _ _ _ (over_parts c.args.program.now c.args.wide.now c.in-Fork.left.now c.in-Fork.right.now c.args.narrow.now c.in-Fork.ensures.0) (sym c.are_over.ensures ∙ c.if-are_over.false)
