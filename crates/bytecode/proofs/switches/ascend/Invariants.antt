use Rattle.std.proofs.Common.{◌≡◌, drop}
use Rattle.jmodel.specs.format.Instruction.{ascend_after, ascend}
use Rattle.bytecode.proofs.switches.ascend.Given as goal

abbrev pub invariant-loop-pair : goal.invariant-loop-pair
invariant-loop-pair l = ascend_after l.before (drop l.pair-index l.pairs) ≡ ascend l.pairs
