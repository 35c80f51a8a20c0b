-- Instructions that are added, each in its shortest form (JVM Specification, Java SE 7, chapter 6). Where one stands is found when the code is laid.
use Rattle.std.specs.Prelude.{ℕ, ℤ, pos, negsuc, ◌+◌, ◌&&◌, nat_lt, int_le, if◌then◌else◌}
use Rattle.jmodel.specs.declared.instruction.Operands.{Operands}
use Rattle.jmodel.specs.declared.instruction.Operands.TheVariants as operands
use Rattle.jmodel.specs.declared.instruction.Instr.{Instr}
use Rattle.objects.specs.declared.op.Sort.{Sort}
use Rattle.objects.specs.declared.op.Sort.TheVariants as sort

abbrev pub instr : ℕ → Operands → Instr
instr c o = record { pc = 0; op = c; operands = o }

abbrev pub plain : ℕ → Instr
plain c = instr c operands.Nothing

-- one that names an entry of the pool
abbrev pub naming : ℕ → ℕ → Instr
naming c i = instr c (operands.Pool i)

-- a jump to a block
abbrev pub jump : ℕ → ℕ → Instr
jump c to = instr c (operands.Target to)

-- A load or a store in its shortest form: of the opcodes that are given, the first has the local behind it, and the second is that of
-- local 0 without operands. Behind wide, 196, a local has two bytes.
abbrev pub local_instr : ℕ → ℕ → ℕ → Instr
local_instr c short i = if nat_lt i 4 then plain (short + i) else if nat_lt i 256 then instr c (operands.Local i) else instr 196 (operands.Wide c i (pos 0))

-- iload, lload, aload
abbrev pub load : Sort → ℕ → Instr
load sort.Int i = local_instr 21 26 i
load sort.Long i = local_instr 22 30 i
load sort.Reference i = local_instr 25 42 i

-- istore, lstore, astore
abbrev pub store : Sort → ℕ → Instr
store sort.Int i = local_instr 54 59 i
store sort.Long i = local_instr 55 63 i
store sort.Reference i = local_instr 58 75 i

-- iinc, 132
abbrev pub increment : ℕ → ℤ → Instr
increment i n = if nat_lt i 256 && int_le (negsuc 127) n && int_le n (pos 127) then instr 132 (operands.LocalAdd i n) else instr 196 (operands.Wide 132 i n)

-- ireturn, lreturn, areturn
abbrev pub give : Sort → Instr
give sort.Int = plain 172
give sort.Long = plain 173
give sort.Reference = plain 176

abbrev pub get_static : ℕ → Instr
get_static i = naming 178 i

abbrev pub get_field : ℕ → Instr
get_field i = naming 180 i

abbrev pub call_virtual : ℕ → Instr
call_virtual i = naming 182 i

abbrev pub call_special : ℕ → Instr
call_special i = naming 183 i

abbrev pub call_static : ℕ → Instr
call_static i = naming 184 i

-- invokeinterface, 185, with its count of argument places
abbrev pub call_interface : ℕ → ℕ → Instr
call_interface i count = instr 185 (operands.Interface i count)

abbrev pub check_cast : ℕ → Instr
check_cast i = naming 192 i
