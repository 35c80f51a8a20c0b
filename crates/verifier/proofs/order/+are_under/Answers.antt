use Rattle.std.proofs.Common.{◌∙◌, sym}
use Rattle.verifier.proofs.Runs.{under_parts, and_rest, and_stop}
use Rattle.verifier.proofs.order.+are_under.Goals as goal

pub returns-then-are_under : goal.returns-then-are_under
returns-then-are_under t c = c.are_under-then-are_under.ensures ∙ and_rest _ _ _ (under_parts c.args.program.now c.args.narrow.now c.in-Fork.left.now c.in-Fork.right.now c.args.wide.now c.in-Fork.ensures.0) (sym c.are_under.ensures ∙ c.if-are_under.true)

pub returns-else-are_under : goal.returns-else-are_under
returns-else-are_under t c = c.if-are_under.false ∙ and_stop _ _ _ (under_parts c.args.program.now c.args.narrow.now c.in-Fork.left.now c.in-Fork.right.now c.args.wide.now c.in-Fork.ensures.0) (sym c.are_under.ensures ∙ c.if-are_under.false)
