use Rattle.std.proofs.Common.{◌≡◌, ◌∙◌, sym, length}
use Rattle.verifier.proofs.Runs.{and_rest, and_stop, parts_within}
use Rattle.verifier.proofs.order.+is_stack_within.Goals as goal

pub returns-then-are_lists_within : goal.returns-then-are_lists_within
returns-then-are_lists_within t c =
    let f = c.in-Some-Some in
    let same : length f.part.now ≡ length f.wider.now = sym c.len.ensures ∙ c.if-len.true ∙ c.len-in-Some-split-2.ensures in
    let parts = parts_within c.args.program.now c.args.narrow.now c.args.wide.now f.part.now f.under.now f.wider.now f.under_wider.now f.ensures.some f.ensures'.some same in
    c.is_stack_within.ensures ∙ and_rest _ _ _ parts (sym c.are_lists_within.ensures ∙ c.if-are_lists_within.true)

pub returns-else-are_lists_within : goal.returns-else-are_lists_within
returns-else-are_lists_within t c =
    let f = c.in-Some-Some in
    let same : length f.part.now ≡ length f.wider.now = sym c.len.ensures ∙ c.if-len.true ∙ c.len-in-Some-split-2.ensures in
    let parts = parts_within c.args.program.now c.args.narrow.now c.args.wide.now f.part.now f.under.now f.wider.now f.under_wider.now f.ensures.some f.ensures'.some same in
    c.if-are_lists_within.false ∙ and_stop _ _ _ parts (sym c.are_lists_within.ensures ∙ c.if-are_lists_within.false)
