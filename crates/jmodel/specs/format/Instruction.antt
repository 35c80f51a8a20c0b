-- The form of code (JVM Specification, Java SE 7, chapter 6): the table of opcodes, and how instructions are spelled.
use Rattle.std.specs.Prelude.{◌≡◌, ℕ, suc, ◌+◌, ◌-◌, ◌%◌, ◌<◌, ◌^◌, ℤ, pos, ◌+ℤ◌, ◌-ℤ◌, ◌≤ℤ◌, List, [], ◌∷◌, ◌++◌, length, map, replicate, Option, Some, None, Bool, true, false, nat_le, int_lt, ◌==◌, ◌&&◌, if◌then◌else◌, option_and_then, option_map, FitsSigned}
use Rattle.std.specs.List.{flat_map, list_any, AllByRecursion}
use Rattle.std.specs.Int.{Width, w8, w16, w32, to_be_bytes, cast_unsigned}
use Rattle.jmodel.specs.declared.class_file.Constant.{Constant}
use Rattle.jmodel.specs.declared.class_file.Constant.TheVariants as constants
use Rattle.jmodel.specs.declared.class_file.Handler.{Handler}
use Rattle.jmodel.specs.declared.instruction.EntryKind.{EntryKind}
use Rattle.jmodel.specs.declared.instruction.EntryKind.TheVariants as kind
use Rattle.jmodel.specs.declared.instruction.Form.{Form}
use Rattle.jmodel.specs.declared.instruction.Form.TheVariants as form
use Rattle.jmodel.specs.declared.instruction.Operands.{Operands}
use Rattle.jmodel.specs.declared.instruction.Operands.TheVariants.{Nothing, Number, Local, LocalAdd, Pool, Interface, Dimensions, Target, Table, Lookup, Wide}
use Rattle.jmodel.specs.declared.instruction.Instr.{Instr}
use Rattle.jmodel.specs.format.ClassFile.{Pool as Entries, u2, u4}
use Rattle.jmodel.specs.format.Pool.{entry, MemberName, member_name}
use Rattle.jmodel.specs.format.Descriptor.{Signature, places_of}
use Rattle.jmodel.specs.format.DescriptorReading.{signature_of}

-- ---- the table

abbrev pub none : Option Form
none = None

-- What stands behind each opcode: a row has the last opcode of a run that begins behind the row before it.
abbrev pub table : List (ℕ × Option Form)
table = (15, Some form.Plain) ∷ (16, Some form.Byte) ∷ (17, Some form.Short) ∷ (18, Some (form.ShortEntry kind.Single))
    ∷ (19, Some (form.Entry kind.Single)) ∷ (20, Some (form.Entry kind.Double)) ∷ (25, Some form.Local) ∷ (53, Some form.Plain)
    ∷ (58, Some form.Local) ∷ (131, Some form.Plain) ∷ (132, Some form.Increment) ∷ (152, Some form.Plain)
    ∷ (168, Some form.Jump) ∷ (169, Some form.Local) ∷ (170, Some form.Table) ∷ (171, Some form.Lookup) ∷ (177, Some form.Plain)
    ∷ (181, Some (form.Entry kind.Field)) ∷ (184, Some (form.Entry kind.Method)) ∷ (185, Some form.Interface) ∷ (186, none)
    ∷ (187, Some (form.Entry kind.Class)) ∷ (188, Some form.ArrayType) ∷ (189, Some (form.Entry kind.Class))
    ∷ (191, Some form.Plain) ∷ (193, Some (form.Entry kind.Class)) ∷ (195, Some form.Plain) ∷ (196, Some form.Wide)
    ∷ (197, Some form.Dimensions) ∷ (199, Some form.Jump) ∷ (201, Some form.FarJump) ∷ []

abbrev pub row_of : ℕ → List (ℕ × Option Form) → Option Form
row_of c [] = None
row_of c (r ∷ rs) = if nat_le c r.0 then r.1 else row_of c rs

-- what stands behind an opcode, None where there is no such opcode
abbrev pub form_of : ℕ → Option Form
form_of c = row_of c table

-- ---- spelling

-- a number that may be negative
abbrev pub signed : Width → ℤ → List ℕ
signed w n = to_be_bytes w (cast_unsigned w n)

-- how far a target lies behind an instruction
abbrev pub distance : ℕ → ℕ → ℤ
distance pc target = pos target -ℤ pos pc

abbrev pub jump : Width → ℕ → ℕ → List ℕ
jump w pc target = signed w (distance pc target)

-- how many bytes stand behind the opcode of a switch, so that its operands begin at a multiple of four
abbrev pub padding : ℕ → ℕ
padding pc = 3 - pc % 4

abbrev pub zeros : ℕ → List ℕ
zeros pc = replicate (padding pc) 0

-- the highest key of a table
abbrev pub highest : ℤ → List ℕ → ℤ
highest low targets = low +ℤ pos (length targets) -ℤ pos 1

abbrev pub pair_text : ℕ → ℤ × ℕ → List ℕ
pair_text pc p = signed w32 p.0 ++ jump w32 pc p.1

-- what stands behind the local of a wide instruction of a form: a number, where one is added
abbrev pub added : Option Form → ℤ → List ℕ
added (Some form.Increment) add = signed w16 add
added f add = []

abbrev pub number_text : Width → Operands → List ℕ
number_text w (Number n) = signed w n
number_text w o = []

abbrev pub local_text : Operands → List ℕ
local_text (Local n) = to_be_bytes w8 n
local_text o = []

abbrev pub increment_text : Operands → List ℕ
increment_text (LocalAdd n add) = to_be_bytes w8 n ++ signed w8 add
increment_text o = []

abbrev pub index_text : Width → Operands → List ℕ
index_text w (Pool i) = to_be_bytes w i
index_text w o = []

abbrev pub interface_text : Operands → List ℕ
interface_text (Interface i count) = u2 i ++ (to_be_bytes w8 count ++ to_be_bytes w8 0)
interface_text o = []

abbrev pub dimensions_text : Operands → List ℕ
dimensions_text (Dimensions i count) = u2 i ++ to_be_bytes w8 count
dimensions_text o = []

abbrev pub target_text : Width → ℕ → Operands → List ℕ
target_text w pc (Target t) = jump w pc t
target_text w pc o = []

abbrev pub table_text : List ℕ → ℕ → Operands → List ℕ
table_text pad pc (Table other low targets) = pad ++ (jump w32 pc other ++ (signed w32 low ++ (signed w32 (highest low targets) ++ flat_map (jump w32 pc) targets)))
table_text pad pc o = []

abbrev pub lookup_text : List ℕ → ℕ → Operands → List ℕ
lookup_text pad pc (Lookup other pairs) = pad ++ (jump w32 pc other ++ (u4 (length pairs) ++ flat_map (pair_text pc) pairs))
lookup_text pad pc o = []

abbrev pub wide_text : Operands → List ℕ
wide_text (Wide op local add) = to_be_bytes w8 op ++ (u2 local ++ added (form_of op) add)
wide_text o = []

-- The operands of a form, of an instruction at a pc; a switch has the given padding.
abbrev pub operands_text : Form → List ℕ → ℕ → Operands → List ℕ
operands_text form.Plain pad pc o = []
operands_text form.Byte pad pc o = number_text w8 o
operands_text form.Short pad pc o = number_text w16 o
operands_text form.ArrayType pad pc o = number_text w8 o
operands_text form.Local pad pc o = local_text o
operands_text form.Increment pad pc o = increment_text o
operands_text (form.ShortEntry k) pad pc o = index_text w8 o
operands_text (form.Entry k) pad pc o = index_text w16 o
operands_text form.Interface pad pc o = interface_text o
operands_text form.Dimensions pad pc o = dimensions_text o
operands_text form.Jump pad pc o = target_text w16 pc o
operands_text form.FarJump pad pc o = target_text w32 pc o
operands_text form.Table pad pc o = table_text pad pc o
operands_text form.Lookup pad pc o = lookup_text pad pc o
operands_text form.Wide pad pc o = wide_text o

abbrev pub text_as : Option Form → List ℕ → Instr → List ℕ
text_as None pad i = []
text_as (Some f) pad i = to_be_bytes w8 i.op ++ operands_text f pad i.pc i.operands

-- the bytes of an instruction, with the padding that it has if it is a switch
abbrev pub text_with : List ℕ → Instr → List ℕ
text_with pad i = text_as (form_of i.op) pad i

-- the one spelling whose padding is 0
abbrev pub text : Instr → List ℕ
text i = text_with (zeros i.pc) i

abbrev pub code_text : List Instr → List ℕ
code_text is = flat_map text is

-- ---- rules

abbrev pub is_of_kind : EntryKind → Constant → Bool
is_of_kind kind.Single (constants.Integer n) = true
is_of_kind kind.Single (constants.Float bits) = true
is_of_kind kind.Single (constants.Text text) = true
is_of_kind kind.Single (constants.Class name) = true
is_of_kind kind.Double (constants.Long n) = true
is_of_kind kind.Double (constants.Double bits) = true
is_of_kind kind.Field (constants.Field class p) = true
is_of_kind kind.Method (constants.Method class p) = true
is_of_kind kind.InterfaceMethod (constants.InterfaceMethod class p) = true
is_of_kind kind.Class (constants.Class name) = true
is_of_kind k c = false

abbrev pub is_kind_in : EntryKind → Option Constant → Bool
is_kind_in k None = false
is_kind_in k (Some c) = is_of_kind k c

-- whether an index is that of an entry of this kind
abbrev pub is_entry : Entries → EntryKind → ℕ → Bool
is_entry pool k i = is_kind_in k (entry pool i)

abbrev pub places_in : MemberName → Option ℕ
places_in m = option_map (λ (s : Signature). suc (places_of s.parameters)) (signature_of m.descriptor)

-- the places of the arguments of an InterfaceMethodref, with the receiver
abbrev pub argument_places : Entries → ℕ → Option ℕ
argument_places pool i = if is_entry pool kind.InterfaceMethod i then option_and_then places_in (member_name pool i) else None

-- keys in order, each above the one before
abbrev pub ascend_after : Option ℤ → List (ℤ × ℕ) → Bool
ascend_after k [] = true
ascend_after None (p ∷ ps) = ascend_after (Some p.0) ps
ascend_after (Some k) (p ∷ ps) = int_lt k p.0 && ascend_after (Some p.0) ps

abbrev pub ascend : List (ℤ × ℕ) → Bool
ascend ps = ascend_after None ps

-- the form behind wide: a load, a store or ret has no number to add
abbrev pub FitsWide : Option Form → ℤ → Type 0
FitsWide (Some form.Local) add = add ≡ pos 0
FitsWide (Some form.Increment) add = FitsSigned w16 add
FitsWide f add = ⊥

abbrev pub IsNothing : Operands → Type 0
IsNothing Nothing = Unit {0}
IsNothing o = ⊥

abbrev pub IsNumber : Width → Operands → Type 0
IsNumber w (Number n) = FitsSigned w n
IsNumber w o = ⊥

abbrev pub IsArrayType : Operands → Type 0
IsArrayType (Number n) = (pos 4 ≤ℤ n) × (n ≤ℤ pos 11)
IsArrayType o = ⊥

abbrev pub IsLocal : Operands → Type 0
IsLocal (Local n) = n < 2 ^ 8
IsLocal o = ⊥

abbrev pub IsIncrement : Operands → Type 0
IsIncrement (LocalAdd n add) = (n < 2 ^ 8) × FitsSigned w8 add
IsIncrement o = ⊥

abbrev pub IsIndex : ℕ → Operands → Type 0
IsIndex limit (Pool i) = i < limit
IsIndex limit o = ⊥

abbrev pub IsInterface : Operands → Type 0
IsInterface (Interface i count) = (i < 2 ^ 16) × (count < 2 ^ 8)
IsInterface o = ⊥

abbrev pub IsDimensions : Operands → Type 0
IsDimensions (Dimensions i count) = (i < 2 ^ 16) × (0 < count) × (count < 2 ^ 8)
IsDimensions o = ⊥

abbrev pub IsTarget : Width → ℕ → Operands → Type 0
IsTarget w pc (Target t) = FitsSigned w (distance pc t)
IsTarget w pc o = ⊥

abbrev pub IsTable : Operands → Type 0
IsTable (Table other low targets) = (0 < length targets) × FitsSigned w32 low × FitsSigned w32 (highest low targets)
IsTable o = ⊥

abbrev pub IsLookup : Operands → Type 0
IsLookup (Lookup other pairs) = (length pairs < 2 ^ 31) × AllByRecursion (λ (p : ℤ × ℕ). FitsSigned w32 p.0) pairs × (ascend pairs ≡ true)
IsLookup o = ⊥

abbrev pub IsWide : Operands → Type 0
IsWide (Wide op local add) = (op < 2 ^ 8) × (local < 2 ^ 16) × FitsWide (form_of op) add
IsWide o = ⊥

-- Operands are those of a form, each in its range, at a pc.
abbrev pub IsSized : ℕ → Form → Operands → Type 0
IsSized pc form.Plain o = IsNothing o
IsSized pc form.Byte o = IsNumber w8 o
IsSized pc form.Short o = IsNumber w16 o
IsSized pc form.ArrayType o = IsArrayType o
IsSized pc form.Local o = IsLocal o
IsSized pc form.Increment o = IsIncrement o
IsSized pc (form.ShortEntry k) o = IsIndex (2 ^ 8) o
IsSized pc (form.Entry k) o = IsIndex (2 ^ 16) o
IsSized pc form.Interface o = IsInterface o
IsSized pc form.Dimensions o = IsDimensions o
IsSized pc form.Jump o = IsTarget w16 pc o
IsSized pc form.FarJump o = IsTarget w32 pc o
IsSized pc form.Table o = IsTable o
IsSized pc form.Lookup o = IsLookup o
IsSized pc form.Wide o = IsWide o

abbrev pub IsSizedAs : ℕ → Option Form → Operands → Type 0
IsSizedAs pc None o = ⊥
IsSizedAs pc (Some f) o = IsSized pc f o

-- an instruction has an opcode, and operands of its form
pub record IsInstr (i : Instr) : Type 0 where
  pub op : i.op < 2 ^ 8
  pub operands : IsSizedAs i.pc (form_of i.op) i.operands

-- the entry that operands name is of this kind
abbrev pub Names : Entries → EntryKind → Operands → Type 0
Names pool k (Pool i) = is_entry pool k i ≡ true
Names pool k (Dimensions i count) = is_entry pool k i ≡ true
Names pool k o = ⊥

-- the count is that of the descriptor's arguments
abbrev pub Counts : Entries → Operands → Type 0
Counts pool (Interface i count) = argument_places pool i ≡ Some count
Counts pool o = ⊥

abbrev pub FitPool : Entries → Form → Operands → Type 0
FitPool pool (form.ShortEntry k) o = Names pool k o
FitPool pool (form.Entry k) o = Names pool k o
FitPool pool form.Interface o = Counts pool o
FitPool pool form.Dimensions o = Names pool kind.Class o
FitPool pool f o = Unit {0}

abbrev pub FitPoolAs : Entries → Option Form → Operands → Type 0
FitPoolAs pool None o = ⊥
FitPoolAs pool (Some f) o = FitPool pool f o

-- an instruction over a pool
pub record IsInstrOver (pool : Entries) (i : Instr) : Type 0 where
  pub instr : IsInstr i
  pub entry : FitPoolAs pool (form_of i.op) i.operands

-- where an instruction may go on, beside the next one
abbrev pub targets_of : Operands → List ℕ
targets_of (Target t) = t ∷ []
targets_of (Table other low targets) = other ∷ targets
targets_of (Lookup other pairs) = other ∷ map (λ (p : ℤ × ℕ). p.1) pairs
targets_of o = []

-- whether an instruction stands at a place
abbrev pub is_start : List Instr → ℕ → Bool
is_start is n = list_any (λ (i : Instr). i.pc == n) is

-- Code holds these instructions from a place on, and nothing else. Padding is free.
abbrev pub Holds : ℕ → List ℕ → List Instr → Type 0
Holds at code [] = code ≡ []
Holds at code (i ∷ is) = (pad : List ℕ) × (rest : List ℕ) × (i.pc ≡ at) × (length pad ≡ padding at) × (code ≡ text_with pad i ++ rest) × Holds (at + length (text_with pad i)) rest is

-- each instruction stands behind the one before
abbrev pub AreInOrder : ℕ → List Instr → Type 0
AreInOrder at [] = Unit {0}
AreInOrder at (i ∷ is) = (i.pc ≡ at) × AreInOrder (at + length (text i)) is

-- the places of an exception entry that are to be starts of instructions: its end only where it isn't the code's
abbrev pub places_of_handler : ℕ → Handler → List ℕ
places_of_handler len h = h.start ∷ (if h.end == len then h.handler ∷ [] else h.end ∷ h.handler ∷ [])

abbrev pub AreStarts : List Instr → List ℕ → Type 0
AreStarts is ns = AllByRecursion (λ n. is_start is n ≡ true) ns

-- Instructions, and exception entries of code of this length, that keep the rules.
pub record AreInstrs (pool : Entries) (handlers : List Handler) (len : ℕ) (is : List Instr) : Type 0 where
  pub each : AllByRecursion (IsInstrOver pool) is
  pub targets : AllByRecursion (λ (i : Instr). AreStarts is (targets_of i.operands)) is
  pub entries : AllByRecursion (λ h. AreStarts is (places_of_handler len h)) handlers

-- The code spells these instructions, which keep the rules.
pub record SpellsInstrs (pool : Entries) (handlers : List Handler) (code : List ℕ) (is : List Instr) : Type 0 where
  pub instrs : AreInstrs pool handlers (length code) is
  pub holds : Holds 0 code is
