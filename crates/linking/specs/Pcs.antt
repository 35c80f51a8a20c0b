-- Where the instructions of a program's methods stand in their code.
use Rattle.std.specs.Prelude.{ℕ, List, Option, Some, None, Result, Ok, Err, slice_get, option_map}
use Rattle.jmodel.specs.declared.instruction.Instr.{Instr}
use Rattle.jmodel.specs.declared.refusal.Refusal.{Refusal}
use Rattle.jmodel.specs.format.ClassFile.{ClassFile}
use Rattle.objects.specs.linking.Code.{Coded}
use Rattle.objects.specs.linking.Linking.{taken_methods, all_decoded}

-- the place in its code of the n-th instruction of a method, where it has code
abbrev pub pc_at : Option (Option Coded) → ℕ → Option ℕ
pc_at (Some (Some k)) n = option_map (λ (i : Instr). i.pc) (slice_get k.instrs n)
pc_at o n = None

abbrev pub pc_in : ℕ → Result (List (Option Coded)) Refusal → ℕ → Option ℕ
pc_in m (Ok ks) n = pc_at (slice_get ks m) n
pc_in m (Err r) n = None

-- the place in its code of an instruction of a method of the program, by their numbers
abbrev pub pc_of : List ClassFile → ℕ → ℕ → Option ℕ
pc_of cs m n = pc_in m (all_decoded (taken_methods cs)) n
