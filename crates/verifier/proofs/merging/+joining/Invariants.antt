use Rattle.std.proofs.Common.{◌+◌, ◌*◌, length}
use Rattle.verifier.proofs.merging.+joining.Given as goal

abbrev pub decreases-join_parts : goal.decreases-join_parts
decreases-join_parts l = 2 * length l.a.now + 1

abbrev pub decreases-join_halves : goal.decreases-join_halves
decreases-join_halves l = 2 * length l.a.now
