-- How the code keeps instructions.
use Rattle.std.specs.Prelude.{ℕ, List, [], ◌∷◌}
use Rattle.jmodel.specs.format.ClassFile.{u2}
use Rattle.bankgen.specs.declared.code.Instruction.{Instruction}
use Rattle.bankgen.specs.declared.code.Instruction.TheVariants.{Plain, Byte, Short, Increment}

abbrev pub bytes_of : Instruction → List ℕ
bytes_of (Plain op) = op ∷ []
bytes_of (Byte op number) = op ∷ number ∷ []
bytes_of (Short op number) = op ∷ u2 number
bytes_of (Increment local number) = 132 ∷ local ∷ number ∷ []
