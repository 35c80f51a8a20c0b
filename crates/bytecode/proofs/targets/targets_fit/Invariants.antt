use Rattle.std.proofs.Common.{◌≡◌, drop}
use Rattle.jmodel.specs.format.InstructionReading.{targets_fit}
use Rattle.bytecode.proofs.targets.targets_fit.Given as goal

abbrev pub invariant-loop-i : goal.invariant-loop-i
invariant-loop-i l = targets_fit l.instrs (drop l.i-index l.instrs) ≡ targets_fit l.instrs l.instrs
