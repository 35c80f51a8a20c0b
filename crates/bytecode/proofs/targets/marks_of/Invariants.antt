use Rattle.std.proofs.Common.{◌≡◌, ℕ, false, length, take, get_or}
use Rattle.jmodel.specs.format.Instruction.{is_start}
use Rattle.bytecode.proofs.targets.marks_of.Given as goal

abbrev pub invariant-loop-i : goal.invariant-loop-i
invariant-loop-i l = record { long : length l.marks.items ≡ l.len; says : (n : ℕ) → get_or l.marks.items n false ≡ is_start (take l.i-index l.instrs) n }
