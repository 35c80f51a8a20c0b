-- Code of methods with its instructions, or its first fault, the mark of atomic methods, and static initialisers.
use Rattle.std.specs.Prelude.{ℤ, pos, List, [], Option, Some, None, Result, Ok, Err, Bool, ◌&&◌, nat_eq, codes, bit_and, bytes_eq, find, option_and_then, is_some, if◌then◌else◌, ℕ, ◌∷◌, position, option_map}
use Rattle.jmodel.specs.declared.instruction.Instr.{Instr}
use Rattle.jmodel.specs.declared.mark.Atomic.{Atomic}
use Rattle.jmodel.specs.declared.mark.AnnotationFault.{AnnotationFault}
use Rattle.jmodel.specs.declared.name.MethodName.{MethodName}
use Rattle.jmodel.specs.declared.refusal.Refusal.{Refusal}
use Rattle.jmodel.specs.declared.refusal.Refusal.TheVariants.{BadCode, BadInstr, BadTarget}
use Rattle.jmodel.specs.format.Name.{printed}
use Rattle.jmodel.specs.format.ClassFile.{Attribute, Member, Pool, ClassFile, Code}
use Rattle.jmodel.specs.format.ClassRules.{is_named}
use Rattle.jmodel.specs.format.ClassReading.{code_of}
use Rattle.jmodel.specs.format.InstructionReading.{instrs_of}
use Rattle.jmodel.specs.format.Reading.{◌>>=◌}
use Rattle.objects.specs.linking.Members.{name_of, is_member}
use Rattle.jmodel.specs.format.Mark.{mark_of}
use Rattle.std.specs.Int.{w32, int_wrapping_add}
use Rattle.jmodel.specs.declared.instruction.Operands.{Operands}
use Rattle.jmodel.specs.declared.instruction.Operands.TheVariants as operands

-- how many attempts the mark says, where the annotations and the mark have no fault
abbrev pub attempts_in : Result (Option Atomic) AnnotationFault → Option ℤ
attempts_in (Ok (Some a)) = Some a.retries
attempts_in (Ok None) = None
attempts_in (Err e) = None

-- how many attempts the mark of a method grants
abbrev pub mark_retries : Pool → Member → Option ℤ
mark_retries pool m = attempts_in (mark_of pool m)

abbrev pub is_marked : Pool → Member → Bool
is_marked pool m = is_some (mark_retries pool m)

-- the name and the descriptor of a static initialiser
abbrev pub names_initialiser : MethodName → Bool
names_initialiser n = bytes_eq n.name (codes "<clinit>") && bytes_eq n.descriptor (codes "()V")

-- A static initialiser (JVM Specification, Java SE 7, section 2.9): of the flags 0008 and 0400 the first alone is set. Any other method of the name is
-- none, in files of every version. The specification asks for the flag 0008 from version 51 on; here it is asked for always.
abbrev pub is_initialiser : Pool → Member → Bool
is_initialiser pool m = nat_eq (bit_and m.flags 0x408) 8 && is_member pool (codes "<clinit>") (codes "()V") m

-- How many attempts a call from outside may make: of a static initialiser 2147483647, else those that the mark grants.
abbrev pub retries_of : Pool → Member → Option ℤ
retries_of pool m = if is_initialiser pool m then Some (pos 2147483647) else mark_retries pool m

-- what is called from outside, each time as a transaction: a marked method, or a static initialiser
abbrev pub is_root : Pool → Member → Bool
is_root pool m = is_some (retries_of pool m)

abbrev pub code_in : Pool → Member → Option Code
code_in pool m = option_and_then (λ (a : Attribute). code_of pool a.bytes) (find (is_named pool (codes "Code")) m.attributes)

-- the Code of a method with its instructions
pub record Coded : Type 0 where
  pub code : Code
  pub instrs : List Instr

-- the fault of code, in the method of this name
abbrev pub in_method : MethodName → Refusal → Refusal
in_method m (BadInstr name at) = BadInstr (printed m) at
in_method m (BadTarget name at) = BadTarget (printed m) at
in_method m r = r

abbrev pub named_fault : {A : Type 0} → MethodName → Result A Refusal → Result A Refusal
named_fault m (Ok x) = Ok x
named_fault m (Err r) = Err (in_method m r)

abbrev pub decoded_code : Pool → Option Code → Result Coded Refusal
decoded_code pool None = Err (BadCode [])
decoded_code pool (Some k) = instrs_of pool k.handlers k.code >>= λ is. Ok (record { code = k; instrs = is })

-- the Code of a method with its instructions, or the first fault of its instructions
abbrev pub decoded : ClassFile → Member → Result Coded Refusal
decoded c m = named_fault (name_of c m) (decoded_code c.pool (code_in c.pool m))

-- the number of the instruction at a place of code
abbrev pub number_at : List Instr → ℕ → Option ℕ
number_at is pc = position (λ (i : Instr). nat_eq i.pc pc) is

-- the cases of a tableswitch: the keys from the lowest on, each with its target
abbrev pub table_cases : ℤ → List ℕ → List (ℤ × ℕ)
table_cases key [] = []
table_cases key (target ∷ targets) = (key, target) ∷ table_cases (int_wrapping_add w32 key (pos 1)) targets

-- a case, with the number of the instruction at its target
abbrev pub numbered_case : List Instr → ℤ × ℕ → Option (ℤ × ℕ)
numbered_case is c = option_map (λ n. (c.0, n)) (number_at is c.1)

-- the opcode that wide stands before
abbrev pub widened : ℕ → Operands → ℕ
widened c (operands.Wide w n add) = w
widened c o = c
