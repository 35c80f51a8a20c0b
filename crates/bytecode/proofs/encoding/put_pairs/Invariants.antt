use Rattle.std.proofs.Common.{◌≡◌, ◌++◌, take}
use Rattle.std.specs.List.{flat_map}
use Rattle.jmodel.specs.format.Instruction.{pair_text}
use Rattle.bytecode.proofs.encoding.put_pairs.Given as goal

abbrev pub invariant-loop-pair : goal.invariant-loop-pair
invariant-loop-pair l = l.out ≡ l.fn.out ++ flat_map (pair_text l.pc) (take l.pair-index l.pairs)
