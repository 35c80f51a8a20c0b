-- Marks of the places at which instructions begin.
use Rattle.std.specs.Prelude.{◌≡◌, ℕ, List, Bool, false, Option, Some, slice_index_or, if◌then◌else◌}
use Rattle.jmodel.specs.declared.instruction.Instr.{Instr}
use Rattle.jmodel.specs.format.Instruction.{is_start}
use Rattle.jmodel.specs.format.InstructionReading.{lesser}

-- the mark of a place says whether an instruction begins there
pub record AreMarks (marks : List Bool) (is : List Instr) : Type 0 where
  pub says : (n : ℕ) → slice_index_or marks n false ≡ is_start is n

-- the lesser of a place and one that was found before, where it isn't marked
abbrev pub worse : List Bool → ℕ → Option ℕ → Option ℕ
worse marks n before = if slice_index_or marks n false then before else lesser before (Some n)
