use Rattle.std.proofs.Common.{length}
use Rattle.type_lists.proofs.stack.+behind.Given as goal

abbrev pub decreases-behind : goal.decreases-behind
decreases-behind l = length l.part.now
