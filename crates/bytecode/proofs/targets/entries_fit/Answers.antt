use Rattle.bytecode.proofs.Walks.{least_on}
use Rattle.bytecode.proofs.targets.entries_fit.Goals as goal

pub loop-h-preserved : goal.loop-h-preserved
loop-h-preserved c = λ all m. rw (c.lesser_of_entry-found.ensures all m) (least_on all c.args.len c.args.handlers.now c.loop-h.h-index c.loop-h.found (record { start = 0; end = 0; handler = 0; catch_type = 0 }) _ c.loop-h-test.true (c.loop-h.invariant all m))
