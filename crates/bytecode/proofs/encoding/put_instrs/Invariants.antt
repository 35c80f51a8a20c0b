use Rattle.std.proofs.Common.{◌≡◌, take}
use Rattle.jmodel.specs.format.Instruction.{code_text}
use Rattle.bytecode.proofs.encoding.put_instrs.Given as goal

abbrev pub invariant-loop-i : goal.invariant-loop-i
invariant-loop-i l = l.out ≡ code_text (take l.i-index l.instrs)
