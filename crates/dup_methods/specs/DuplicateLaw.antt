-- What a duplicate means, with the symbols of rewritten classes, is the rewriting's.
use Rattle.std.specs.Prelude.{◌≡◌, ◌<◌, ℕ, List, [], ◌∷◌, ◌++◌, length, Option, Some, Ok, true, false, slice_get, slice_index}
use Rattle.std.specs.List.{AllByRecursion}
use Rattle.jmodel.specs.declared.value.Value.{Value}
use Rattle.jmodel.specs.declared.name.MethodName.{MethodName}
use Rattle.jmodel.specs.declared.instruction.Instr.{Instr}
use Rattle.jmodel.specs.format.ClassFile.{Attribute, Member, Pool, ClassFile, Code}
use Rattle.jmodel.specs.format.Pool.{MemberName}
use Rattle.jmodel.specs.format.Descriptor.{Signature}
use Rattle.jmodel.specs.format.Instruction.{IsInstr, SpellsInstrs}
use Rattle.jmodel.specs.format.PoolAdding.{IsLonger}
use Rattle.jmodel.specs.format.Relocation.{Block, laid_to, relocated}
use Rattle.objects.specs.linking.Code.{number_at, Coded, decoded}
use Rattle.objects.specs.linking.Each.{each}
use Rattle.objects.specs.linking.Members.{own_name}
use Rattle.objects.specs.linking.Taken.{invoked}
use Rattle.objects.specs.declared.op.WordType.{WordType}
use Rattle.objects.specs.declared.op.Op.{Op}
use Rattle.objects.specs.declared.op.Op.TheVariants.{Constant, Throw, InvokeStatic, InvokeSpecial, InvokeVirtual, InvokeInterface}
use Rattle.objects.specs.semantics.Program.{Field, Program, field_at}
use Rattle.objects.specs.typing.Source.{IsSourceOp, IsSourceMethod}
use Rattle.objects.specs.typing.Typing.{Types}
use Rattle.objects.specs.linking.Constructs.{accessed, is_float_descriptor}
use Rattle.objects.specs.linking.Linking.{signature_in, receiver_types, parameter_types, result_type}
use Rattle.objects.specs.linking.Decoding.{Symbols, op_of, ops_of, get_static_op, static_call_op, special_call_op, virtual_call_op, interface_call_op}
use Rattle.objects.specs.rewriting.Rewriting.{typed_from, blocks, getter, setter, duplicate, element_getter, element_setter, duplicate_method, block_of as block_in_program}
use Rattle.member_code.specs.Names.{duplicate_named}
use Rattle.member_code.specs.Meaning.{meaning}
use Rattle.dup_methods.specs.Originals.{Original}
use Rattle.dup_methods.specs.Duplicates.{block_of, refs_of, stub, duplicate_of}
use Rattle.dup_methods.specs.Limits.{AddsLittle, few_arguments, few_places}
use Rattle.dup_methods.specs.Names.{getter_named, setter_named, load_named, store_named, as_name}

-- how an instruction names a method
abbrev pub as_member : MethodName → MemberName
as_member n = record { class = n.class; name = n.name; descriptor = n.descriptor }

-- the name of the duplicate of a method that an instruction names
abbrev pub duplicate_member : MemberName → MemberName
duplicate_member n = as_member (duplicate_named (as_name n))

-- What the symbols of a rewritten class say of what duplicates name, beside those of its original class: types, texts and constants are the same, names
-- of accessors and of the helper's methods lead to these, and names of duplicates to the duplicates of what the methods' names lead to. Of names
-- in code this is said of methods that are called and of fields that are accessed alone.
pub record Ties (P : Program) (Called Accessed : MemberName → Type 0) (s0 s : Symbols) : Type 0 where
  pub types : s.types ≡ s0.types
  pub texts : s.texts ≡ s0.texts
  pub constants : (n : MemberName) (v : Value) → Accessed n → get_static_op s0 n ≡ Some (Constant v) → get_static_op s n ≡ Some (Constant v)
  pub getters : (f : ℕ) (d : Field) → field_at P f ≡ Some d → static_call_op s (as_member (getter_named d)) ≡ Some (InvokeStatic (getter P f))
  pub setters : (f : ℕ) (d : Field) → field_at P f ≡ Some d → static_call_op s (as_member (setter_named d)) ≡ Some (InvokeStatic (setter P f))
  pub loads : (t : WordType) → static_call_op s (as_member (load_named t)) ≡ Some (InvokeStatic (element_getter P t))
  pub stores : (t : WordType) → static_call_op s (as_member (store_named t)) ≡ Some (InvokeStatic (element_setter P t))
  pub statics : (n : MemberName) (m : ℕ) → Called n → static_call_op s0 n ≡ Some (InvokeStatic m) → static_call_op s (duplicate_member n) ≡ Some (InvokeStatic (duplicate P m))
  pub specials : (n : MemberName) (m : ℕ) → Called n → special_call_op s0 n ≡ Some (InvokeSpecial m) → special_call_op s (duplicate_member n) ≡ Some (InvokeSpecial (duplicate P m))
  pub virtuals : (n : MemberName) (m : ℕ) (c : List ℕ) → Called n → virtual_call_op s0 n ≡ Some (InvokeVirtual m c) → virtual_call_op s (duplicate_member n) ≡ Some (InvokeVirtual (duplicate P m) c)
  pub interfaces : (n : MemberName) (m : ℕ) (c : List ℕ) → Called n → interface_call_op s0 n ≡ Some (InvokeInterface m c) → interface_call_op s (duplicate_member n) ≡ Some (InvokeInterface (duplicate P m) c)

-- Where instructions of the original stand, and the blocks of these in the duplicate: what stood at a place with a number stands at its block's.
abbrev pub LeadsToBlocks : (before after : List Instr) → (place at : ℕ → ℕ) → Type 0
LeadsToBlocks before after place at = (t n : ℕ) → number_at before t ≡ Some n → number_at after (place t) ≡ Some (at n)

-- The block of an instruction of the original, wherever it is laid among the instructions of the duplicate, whose class's pool is that which the block left
-- and perhaps more, means what the rewriting puts in its place.
abbrev pub RowsLaw : Type 0
RowsLaw = (O : Original) (s0 s : Symbols) (o : Op) (h : Option Types) (i : Instr) (before after : List Instr) (place at : ℕ → ℕ) (pool : Pool) (r : List Instr × Pool)
    → Ties O.program (λ n. invoked O.class.pool i ≡ Some n) (λ n. accessed O.class.pool i ≡ Some n) s0 s → s0.class ≡ O.class → op_of s0 before i ≡ Some o → IsInstr i → IsSourceOp O.program O.method o → LeadsToBlocks before after place at
    → IsLonger O.class.pool pool → length pool < 65535 → block_of O (Some o) h i pool ≡ Ok r → IsLonger r.1 s.class.pool
    → (a : ℕ) → each (op_of s after) (laid_to place a r.0) ≡ Some (block_in_program O.program O.method.places O.method.locals at h o)

-- Code of instructions that keep the rules, each of which means something, adds numbers of two bytes alone.
abbrev pub LittleLaw : Type 0
LittleLaw = (s : Symbols) (is : List Instr) (os : List Op) → AllByRecursion IsInstr is → each (op_of s is) is ≡ Some os → AllByRecursion AddsLittle os

-- some instruction of code calls a method of this name
pub record IsCalledIn (pool : Pool) (is : List Instr) (n : MemberName) : Type 0 where
  pub index : ℕ
  pub instr : Instr
  pub inside : slice_get is index ≡ Some instr
  pub names : invoked pool instr ≡ Some n

-- some instruction of code reads or writes a field of this name
pub record IsAccessedIn (pool : Pool) (is : List Instr) (n : MemberName) : Type 0 where
  pub index : ℕ
  pub instr : Instr
  pub inside : slice_get is index ≡ Some instr
  pub names : accessed pool instr ≡ Some n

-- Where linking means an original method's instructions as its program does, those of the duplicate mean the duplicate's, the stub among them.
abbrev pub OpsLaw : Type 0
OpsLaw = (O : Original) (s0 s : Symbols) (code : Code) (before : List Instr) (pool : Pool) (r : (List Block × ℕ) × Pool)
    → Ties O.program (IsCalledIn O.class.pool before) (IsAccessedIn O.class.pool before) s0 s → s0.class ≡ O.class → ops_of s0 before ≡ Some O.method.ops
    → SpellsInstrs O.class.pool code.handlers code.code before → IsSourceMethod O.program O.method
    → few_arguments O.program O.method before ≡ Ok tt → few_places O.method code ≡ Ok tt
    → IsLonger O.class.pool pool → length pool < 65535 → refs_of O before pool ≡ Ok r → IsLonger r.1 s.class.pool
    → ops_of s (relocated r.0.0 stub) ≡ Some (blocks O.program O.method.places O.method.locals (typed_from 0 O.table O.method.ops) ++ Throw ∷ [])

-- ---- whole members

-- the attributes of a method hold bytes
abbrev pub HasBytes : Member → Type 0
HasBytes m = AllByRecursion (λ (a : Attribute). (i : ℕ) → slice_index a.bytes i < 256) m.attributes

-- the code of a method calls a method of this name
pub record IsCalledBy (c : ClassFile) (m : Member) (n : MemberName) : Type 0 where
  pub coded : Coded
  pub decodes : decoded c m ≡ Ok coded
  pub called : IsCalledIn c.pool coded.instrs n

-- the code of a method reads or writes a field of this name
pub record IsAccessedBy (c : ClassFile) (m : Member) (n : MemberName) : Type 0 where
  pub coded : Coded
  pub decodes : decoded c m ≡ Ok coded
  pub accessed : IsAccessedIn c.pool coded.instrs n

-- With the symbols of a rewritten class its own name, and the types that a method of its original takes and gives, are read as before.
pub record ReadsAlike (s0 s : Symbols) (m : Member) : Type 0 where
  pub own : own_name s.class ≡ own_name s0.class
  pub receiver : receiver_types s.classes s.class m ≡ receiver_types s0.classes s0.class m
  pub parameters : (g : Signature) → signature_in (record { class = s0.class; member = m }) ≡ Some g → parameter_types s.classes g ≡ parameter_types s0.classes g
  pub result : (g : Signature) → signature_in (record { class = s0.class; member = m }) ≡ Some g → result_type s.classes g ≡ result_type s0.classes g

-- The duplicate of a method that linking means as its program does, read with the symbols of the rewritten class, is the rewriting's.
abbrev pub DuplicateLaw : Type 0
DuplicateLaw = (O : Original) (s0 s : Symbols) (room : ℕ) (pool : Pool) (r : Member × Pool)
    → Ties O.program (IsCalledBy O.class O.member) (IsAccessedBy O.class O.member) s0 s → ReadsAlike s0 s O.member → s0.class ≡ O.class
    → HasBytes O.member → meaning s0 true O.member ≡ Some O.method → IsSourceMethod O.program O.method → is_float_descriptor O.method.name.descriptor ≡ false
    → IsLonger O.class.pool pool → length pool < 65535 → duplicate_of room O pool ≡ Ok r → IsLonger r.1 s.class.pool
    → meaning s true r.0 ≡ Some (duplicate_method O.program O.method O.table)
