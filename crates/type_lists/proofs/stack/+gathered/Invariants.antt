use Rattle.std.proofs.Common.{length}
use Rattle.type_lists.proofs.stack.+gathered.Given as goal

abbrev pub decreases-gathered : goal.decreases-gathered
decreases-gathered l = length l.stack.value
