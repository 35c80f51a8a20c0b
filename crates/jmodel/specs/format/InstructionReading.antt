-- Reading code: its instructions from the front, then their targets, then the places of exception entries.
use Rattle.std.specs.Prelude.{ℕ, zero, suc, ◌^◌, min, ℤ, pos, negsuc, ◌+ℤ◌, ◌-ℤ◌, List, [], ◌∷◌, length, Option, Some, None, Result, Ok, Err, Bool, false, nat_lt, nat_le, ◌==◌, ◌&&◌, if◌then◌else◌}
use Rattle.std.specs.List.{list_all, flat_map}
use Rattle.std.specs.Int.{Width, w8, w16, w32, cast_signed}
use Rattle.jmodel.specs.declared.class_file.Handler.{Handler}
use Rattle.jmodel.specs.declared.refusal.Refusal.{Refusal}
use Rattle.jmodel.specs.declared.refusal.Refusal.TheVariants.{BadInstr, BadTarget}
use Rattle.jmodel.specs.declared.instruction.EntryKind.{EntryKind}
use Rattle.jmodel.specs.declared.instruction.EntryKind.TheVariants as kind
use Rattle.jmodel.specs.declared.instruction.Form.{Form}
use Rattle.jmodel.specs.declared.instruction.Form.TheVariants as form
use Rattle.jmodel.specs.declared.instruction.Operands.{Operands}
use Rattle.jmodel.specs.declared.instruction.Operands.TheVariants.{Nothing, Number, Local, LocalAdd, Pool, Interface, Dimensions, Target, Table, Lookup, Wide}
use Rattle.jmodel.specs.declared.instruction.Instr.{Instr}
use Rattle.jmodel.specs.format.ClassFile.{Pool as Entries}
use Rattle.jmodel.specs.format.Reading.{◌>>=◌, run_at, number_at, u2_at, u4_at, items_at}
use Rattle.jmodel.specs.format.PoolReading.{done}
use Rattle.jmodel.specs.format.Instruction.{form_of, padding, is_entry, argument_places, ascend, targets_of, is_start, places_of_handler}

-- The fault of an instruction at a pc.
abbrev pub bad_instr : ℕ → Refusal
bad_instr pc = BadInstr [] (pos pc)

abbrev pub bad_target : ℕ → Refusal
bad_target pc = BadTarget [] (pos pc)

abbrev pub want : {A : Type 0} → Bool → ℕ → A → Result A Refusal
want b pc x = if b then Ok x else Err (bad_instr pc)

-- whatever the fault of its parts is, it is the instruction's
abbrev pub as_bad : {A : Type 0} → ℕ → Result A Refusal → Result A Refusal
as_bad pc (Ok x) = Ok x
as_bad pc (Err e) = Err (bad_instr pc)

-- ---- numbers

unfoldable pub signed_at : Width → List ℕ → ℕ → Result (ℤ × ℕ) Refusal
signed_at w bytes at = do
  n ← number_at w bytes at
  Ok (cast_signed w n.0, n.1)

-- The place that is so far behind a pc. One that isn't in code is 65535, where no instruction can begin.
abbrev pub place_in_code : ℤ → ℕ
place_in_code (pos n) = min n 65535
place_in_code (negsuc n) = 65535

unfoldable pub target_at : Width → ℕ → List ℕ → ℕ → Result (ℕ × ℕ) Refusal
target_at w pc bytes at = do
  n ← signed_at w bytes at
  Ok (place_in_code (pos pc +ℤ n.0), n.1)

-- ---- operands, by form, of an instruction at a pc

unfoldable pub signed_operand_at : Width → List ℕ → ℕ → Result (Operands × ℕ) Refusal
signed_operand_at w bytes at = do
  n ← signed_at w bytes at
  Ok (Number n.0, n.1)

unfoldable pub array_type_at : ℕ → List ℕ → ℕ → Result (Operands × ℕ) Refusal
array_type_at pc bytes at = do
  n ← number_at w8 bytes at
  want (nat_le 4 n.0 && nat_le n.0 11) pc (Number (pos n.0), n.1)

unfoldable pub local_at : List ℕ → ℕ → Result (Operands × ℕ) Refusal
local_at bytes at = do
  n ← number_at w8 bytes at
  Ok (Local n.0, n.1)

unfoldable pub increment_at : List ℕ → ℕ → Result (Operands × ℕ) Refusal
increment_at bytes at = do
  n ← number_at w8 bytes at
  add ← signed_at w8 bytes n.1
  Ok (LocalAdd n.0 add.0, add.1)

unfoldable pub entry_operand_at : Entries → Width → EntryKind → ℕ → List ℕ → ℕ → Result (Operands × ℕ) Refusal
entry_operand_at pool w k pc bytes at = do
  i ← number_at w bytes at
  want (is_entry pool k i.0) pc (Pool i.0, i.1)

abbrev pub is_count : Option ℕ → ℕ → Bool
is_count None n = false
is_count (Some k) n = k == n

unfoldable pub interface_at : Entries → ℕ → List ℕ → ℕ → Result (Operands × ℕ) Refusal
interface_at pool pc bytes at = do
  i ← u2_at bytes at
  count ← number_at w8 bytes i.1
  last ← number_at w8 bytes count.1
  want (is_count (argument_places pool i.0) count.0 && last.0 == 0) pc (Interface i.0 count.0, last.1)

unfoldable pub dimensions_at : Entries → ℕ → List ℕ → ℕ → Result (Operands × ℕ) Refusal
dimensions_at pool pc bytes at = do
  i ← u2_at bytes at
  count ← number_at w8 bytes i.1
  want (is_entry pool kind.Class i.0 && nat_lt 0 count.0) pc (Dimensions i.0 count.0, count.1)

unfoldable pub jump_at : Width → ℕ → List ℕ → ℕ → Result (Operands × ℕ) Refusal
jump_at w pc bytes at = do
  t ← target_at w pc bytes at
  Ok (Target t.0, t.1)

abbrev pub positive : ℤ → Option ℕ
positive (pos (suc n)) = Some (suc n)
positive z = None

-- how many keys a table has, None where it has none
abbrev pub keys_from : ℤ → ℤ → Option ℕ
keys_from low high = positive (high -ℤ low +ℤ pos 1)

abbrev pub table_of : ℕ → List ℕ → ℕ → ℤ → Option ℕ → ℕ → Result (Operands × ℕ) Refusal
table_of pc bytes other low None at = Err (bad_instr pc)
table_of pc bytes other low (Some n) at = items_at (target_at w32 pc bytes) n at >>= λ targets. Ok (Table other low targets.0, targets.1)

unfoldable pub table_at : ℕ → List ℕ → ℕ → Result (Operands × ℕ) Refusal
table_at pc bytes at = do
  pad ← run_at bytes at (padding pc)
  other ← target_at w32 pc bytes pad.1
  low ← signed_at w32 bytes other.1
  high ← signed_at w32 bytes low.1
  table_of pc bytes other.0 low.0 (keys_from low.0 high.0) high.1

unfoldable pub pair_at : ℕ → List ℕ → ℕ → Result ((ℤ × ℕ) × ℕ) Refusal
pair_at pc bytes at = do
  key ← signed_at w32 bytes at
  t ← target_at w32 pc bytes key.1
  Ok ((key.0, t.0), t.1)

-- a count that isn't negative
unfoldable pub count_at : ℕ → List ℕ → ℕ → Result (ℕ × ℕ) Refusal
count_at pc bytes at = do
  n ← u4_at bytes at
  want (nat_lt n.0 (2 ^ 31)) pc n

unfoldable pub lookup_at : ℕ → List ℕ → ℕ → Result (Operands × ℕ) Refusal
lookup_at pc bytes at = do
  pad ← run_at bytes at (padding pc)
  other ← target_at w32 pc bytes pad.1
  count ← count_at pc bytes other.1
  pairs ← items_at (pair_at pc bytes) count.0 count.1
  want (ascend pairs.0) pc (Lookup other.0 pairs.0, pairs.1)

-- what stands behind the local of a wide instruction
abbrev pub wide_of : ℕ → List ℕ → ℕ → ℕ → Option Form → ℕ → Result (Operands × ℕ) Refusal
wide_of pc bytes op local (Some form.Local) at = Ok (Wide op local (pos 0), at)
wide_of pc bytes op local (Some form.Increment) at = signed_at w16 bytes at >>= λ add. Ok (Wide op local add.0, add.1)
wide_of pc bytes op local f at = Err (bad_instr pc)

unfoldable pub wide_at : ℕ → List ℕ → ℕ → Result (Operands × ℕ) Refusal
wide_at pc bytes at = do
  op ← number_at w8 bytes at
  local ← u2_at bytes op.1
  wide_of pc bytes op.0 local.0 (form_of op.0) local.1

-- the operands of a form
abbrev pub operands_at : Entries → ℕ → Form → List ℕ → ℕ → Result (Operands × ℕ) Refusal
operands_at pool pc form.Plain bytes at = Ok (Nothing, at)
operands_at pool pc form.Byte bytes at = signed_operand_at w8 bytes at
operands_at pool pc form.Short bytes at = signed_operand_at w16 bytes at
operands_at pool pc form.ArrayType bytes at = array_type_at pc bytes at
operands_at pool pc form.Local bytes at = local_at bytes at
operands_at pool pc form.Increment bytes at = increment_at bytes at
operands_at pool pc (form.ShortEntry k) bytes at = entry_operand_at pool w8 k pc bytes at
operands_at pool pc (form.Entry k) bytes at = entry_operand_at pool w16 k pc bytes at
operands_at pool pc form.Interface bytes at = interface_at pool pc bytes at
operands_at pool pc form.Dimensions bytes at = dimensions_at pool pc bytes at
operands_at pool pc form.Jump bytes at = jump_at w16 pc bytes at
operands_at pool pc form.FarJump bytes at = jump_at w32 pc bytes at
operands_at pool pc form.Table bytes at = table_at pc bytes at
operands_at pool pc form.Lookup bytes at = lookup_at pc bytes at
operands_at pool pc form.Wide bytes at = wide_at pc bytes at

abbrev pub operands_as : Entries → ℕ → Option Form → List ℕ → ℕ → Result (Operands × ℕ) Refusal
operands_as pool pc None bytes at = Err (bad_instr pc)
operands_as pool pc (Some f) bytes at = operands_at pool pc f bytes at

-- ---- instructions

unfoldable pub parts_at : Entries → List ℕ → ℕ → Result (Instr × ℕ) Refusal
parts_at pool bytes pc = do
  op ← number_at w8 bytes pc
  operands ← operands_as pool pc (form_of op.0) bytes op.1
  Ok (record { pc = pc; op = op.0; operands = operands.0 }, operands.1)

-- the instruction at a pc, and the place after it, or BadInstr
abbrev pub instr_at : Entries → List ℕ → ℕ → Result (Instr × ℕ) Refusal
instr_at pool bytes pc = as_bad pc (parts_at pool bytes pc)

-- Instructions up to the end of the code; each takes a byte, so that there are at most as many as bytes.
unfoldable pub instrs_at : Entries → List ℕ → ℕ → ℕ → Result (List Instr) Refusal
instrs_at pool bytes zero at = Ok []
instrs_at pool bytes (suc n) at = if nat_le (length bytes) at then Ok [] else (instr_at pool bytes at >>= λ first. instrs_at pool bytes n first.1 >>= λ others. Ok (first.0 ∷ others))

-- ---- targets

abbrev pub are_starts : List Instr → List ℕ → Bool
are_starts is ts = list_all (is_start is) ts

-- the first jump that leads to no instruction
unfoldable pub targets_fit : List Instr → List Instr → Result (Unit {0}) Refusal
targets_fit all [] = done
targets_fit all (i ∷ is) = if are_starts all (targets_of i.operands) then targets_fit all is else Err (bad_target i.pc)

abbrev pub lesser : Option ℕ → Option ℕ → Option ℕ
lesser None o = o
lesser (Some n) None = Some n
lesser (Some n) (Some m) = Some (min n m)

-- the least of the places at which no instruction begins
abbrev pub least_bad : List Instr → List ℕ → Option ℕ
least_bad is [] = None
least_bad is (n ∷ ns) = if is_start is n then least_bad is ns else lesser (Some n) (least_bad is ns)

abbrev pub places_fit : Option ℕ → Result (Unit {0}) Refusal
places_fit None = done
places_fit (Some n) = Err (bad_target n)

-- the instructions of code with these exception entries, or the first fault
unfoldable pub instrs_of : Entries → List Handler → List ℕ → Result (List Instr) Refusal
instrs_of pool handlers code = do
  is ← instrs_at pool code (length code) 0
  jumps ← targets_fit is is
  entries ← places_fit (least_bad is (flat_map (places_of_handler (length code)) handlers))
  Ok is
