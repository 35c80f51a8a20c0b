use Rattle.std.proofs.Common.{◌≡◌, ◌++◌, take}
use Rattle.std.specs.Int.{w32}
use Rattle.std.specs.List.{flat_map}
use Rattle.jmodel.specs.format.Instruction.{jump}
use Rattle.bytecode.proofs.encoding.put_targets.Given as goal

abbrev pub invariant-loop-target : goal.invariant-loop-target
invariant-loop-target l = l.out ≡ l.fn.out ++ flat_map (jump w32 l.pc) (take l.target-index l.targets)
