use Rattle.std.proofs.Common.{take}
use Rattle.part_tests.proofs.GrownLaws.{AreGrown}
use Rattle.part_tests.proofs.laying.blocks_of.Given as goal

abbrev pub invariant-loop-i : goal.invariant-loop-i
invariant-loop-i l = AreGrown l.blocks.items (take l.i-index l.i-items)
