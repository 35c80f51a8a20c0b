use Rattle.std.proofs.Common.{◌∙◌, sym}
use Rattle.verifier.proofs.Runs.{halves_within, and_rest, and_stop}
use Rattle.verifier.proofs.order.+are_lists_within.Goals as goal

pub returns-then-are_lists_within : goal.returns-then-are_lists_within
returns-then-are_lists_within t c =
    let f = c.in-Fork-Fork in
    let parts = halves_within c.args.program.now c.args.narrow.now c.args.wide.now f.left.now f.right.now f.left_wide.now f.right_wide.now f.ensures.0 f.ensures'.0 (sym c.len.ensures ∙ c.if-len.false ∙ c.len-2.ensures) f.ensures.3 f.ensures'.3 in
    c.are_lists_within-then-are_lists_within.ensures ∙ and_rest _ _ _ parts (sym c.are_lists_within.ensures ∙ c.if-are_lists_within.true)

pub returns-else-are_lists_within : goal.returns-else-are_lists_within
returns-else-are_lists_within t c =
    let f = c.in-Fork-Fork in
    let parts = halves_within c.args.program.now c.args.narrow.now c.args.wide.now f.left.now f.right.now f.left_wide.now f.right_wide.now f.ensures.0 f.ensures'.0 (sym c.len.ensures ∙ c.if-len.false ∙ c.len-2.ensures) f.ensures.3 f.ensures'.3 in
    c.if-are_lists_within.false ∙ and_stop _ _ _ parts (sym c.are_lists_within.ensures ∙ c.if-are_lists_within.false)
