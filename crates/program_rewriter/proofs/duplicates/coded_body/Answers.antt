use Rattle.program_rewriter.proofs.Parts.{table_has_for}
use Rattle.program_rewriter.proofs.duplicates.coded_body.Goals as goal

pub returns : goal.returns
returns c =
    table_has_for c.args.program.now c.args.method.now c.args.typing.now c.in_ok-starts.starts.items c.as_slice.result.now c.as_slice-2.result.now c.entry-entry.result.places c.entry-entry.result.locals c.more_locals.result c.max_stack.result _
    c.in_ok-starts.ensures c.as_slice.ensures.value c.as_slice-2.ensures.value c.entry-entry.ensures.places c.entry-entry.ensures.locals c.more_locals.ensures c.max_stack.ensures
    c.in_ok-sum.ensures c.in_ok-sum-2.ensures c.in_ok-ops_of.ensures c.in_ok-catches_of.ensures
