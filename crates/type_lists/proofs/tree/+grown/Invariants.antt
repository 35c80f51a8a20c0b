use Rattle.std.proofs.Common.{length}
use Rattle.type_lists.proofs.tree.+grown.Given as goal

abbrev pub decreases-grown : goal.decreases-grown
decreases-grown l = length l.types.now
