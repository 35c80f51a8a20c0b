use Rattle.std.proofs.Common.{◌≡◌, replicate}
use Rattle.part_tests.proofs.GrownLaws.{nop}
use Rattle.part_tests.proofs.laying.block_of.Given as goal

abbrev pub invariant-loop : goal.invariant-loop
invariant-loop l = l.instrs.items ≡ replicate l.counter nop
