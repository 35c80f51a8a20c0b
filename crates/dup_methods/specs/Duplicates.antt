-- The duplicate of a method, with the entries that it names (Korland, Shavit, Felber, MULTIPROG 2010, in this project's form): it takes the context, reads and
-- writes fields and elements over it, and calls duplicates.
use Rattle.std.specs.Prelude.{ℕ, ◌+◌, List, [], ◌∷◌, ◌++◌, Option, Some, None, option_and_then, Result, Ok, if◌then◌else◌, codes, bytes_eq, bit_and, bit_or, slice_get}
use Rattle.jmodel.specs.declared.refusal.Refusal.{Refusal}
use Rattle.jmodel.specs.declared.name.MethodName.{MethodName}
use Rattle.jmodel.specs.declared.instruction.Instr.{Instr}
use Rattle.jmodel.specs.declared.typing.VType.{VType}
use Rattle.jmodel.specs.declared.typing.VType.TheVariants as type
use Rattle.jmodel.specs.format.ClassFile.{Member, Pool, Code}
use Rattle.jmodel.specs.format.Pool.{MemberName, member_name}
use Rattle.jmodel.specs.format.Name.{printed}
use Rattle.objects.specs.linking.Code.{Coded}
use Rattle.objects.specs.linking.Taken.{index_of}
use Rattle.jmodel.specs.format.PoolAdding.{add_text, add_class, add_method, add_interface_method}
use Rattle.jmodel.specs.format.Reading.{◌>>=◌}
use Rattle.jmodel.specs.format.Relocation.{Block}
use Rattle.objects.specs.declared.op.Sort.TheVariants as sort
use Rattle.objects.specs.declared.op.WordType.{WordType}
use Rattle.objects.specs.declared.op.WordType.TheVariants as word
use Rattle.objects.specs.declared.op.Op.{Op}
use Rattle.objects.specs.declared.op.Op.TheVariants.{Load, Store, Increment, GetStatic, PutStatic, GetField, PutField, InvokeStatic, InvokeSpecial, InvokeVirtual, InvokeInterface, LoadElement, StoreElement}
use Rattle.objects.specs.semantics.Program.{Field, Method, field_at}
use Rattle.objects.specs.typing.Typing.{Types, types_at}
use Rattle.objects.specs.typing.TypeOrder.{conflict_class, object_class, element_class}
use Rattle.objects.specs.linking.Linking.{decoded_member}
use Rattle.objects.specs.rewriting.Rewriting.{word_places, moved, moved_to, helped, array_under}
use Rattle.member_code.specs.Growing.{Growth, grow_from}
use Rattle.member_code.specs.Names.{duplicate_named}
use Rattle.member_code.specs.Instrs.{plain, naming, load, store, increment, call_interface, check_cast}
use Rattle.member_code.specs.Coding.{of_method, room_for, block, laid_bytes, typed_name, added_method}
use Rattle.dup_methods.specs.Originals.{Original}
use Rattle.dup_methods.specs.Names.{getter_named, setter_named, load_named, store_named, as_name}
use Rattle.dup_methods.specs.Limits.{count_of, few_arguments, few_places, added_locals}

-- ---- calls

-- a call of a method, by an opcode, with the context from local p as last argument
unfoldable pub call_of : (p opcode : ℕ) → MethodName → Pool → Growth (List Instr)
call_of p opcode n pool = add_method pool n.class n.name n.descriptor >>= λ i. Ok (load sort.Reference p ∷ naming opcode i.0 ∷ [], i.1)

-- the same of an interface's method, whose arguments take so many places
unfoldable pub interface_call_of : (p count : ℕ) → MethodName → Pool → Growth (List Instr)
interface_call_of p count n pool = add_interface_method pool n.class n.name n.descriptor >>= λ i. Ok (load sort.Reference p ∷ call_interface i.0 count ∷ [], i.1)

-- invokestatic, 184, of an added method
abbrev pub helper_call : ℕ → MethodName → Pool → Growth (List Instr)
helper_call p n pool = call_of p 184 n pool

-- of an accessor of a field
abbrev pub accessor_call : ℕ → (Field → MethodName) → Option Field → Instr → Pool → Growth (List Instr)
accessor_call p name (Some f) i pool = helper_call p (name f) pool
accessor_call p name None i pool = Ok (i ∷ [], pool)

-- of the duplicate of the method that an instruction names
abbrev pub duplicate_call : (p opcode : ℕ) → Option MemberName → Instr → Pool → Growth (List Instr)
duplicate_call p opcode None i pool = Ok (i ∷ [], pool)
duplicate_call p opcode (Some n) i pool = call_of p opcode (duplicate_named (as_name n)) pool

-- The count of argument places is one higher.
abbrev pub interface_call : ℕ → Option MemberName → Instr → Pool → Growth (List Instr)
interface_call p None i pool = Ok (i ∷ [], pool)
interface_call p (Some n) i pool = interface_call_of p (count_of i.operands + 1) (duplicate_named (as_name n)) pool

-- ---- elements

-- An element of an array of references is cast to their class, where that isn't Object; one of null is null, by pop, 87, and aconst_null, 1.
unfoldable pub class_cast : List ℕ → Pool → Growth (List Instr)
class_cast n pool = if bytes_eq n object_class then Ok ([], pool) else (add_class pool n >>= λ i. Ok (check_cast i.0 ∷ [], i.1))

abbrev pub after_load : WordType → Option VType → Pool → Growth (List Instr)
after_load word.Reference (Some (type.Ref n)) pool = class_cast (element_class n) pool
after_load word.Reference (Some type.Null) pool = Ok (plain 87 ∷ plain 1 ∷ [], pool)
after_load t u pool = Ok ([], pool)

unfoldable pub element_load : ℕ → WordType → Option VType → Pool → Growth (List Instr)
element_load p t u pool = do
  call ← helper_call p (load_named (helped u t)) pool
  after ← after_load t u call.1
  Ok (call.0 ++ after.0, after.1)

abbrev pub element_store : ℕ → WordType → Option VType → Pool → Growth (List Instr)
element_store p t u pool = helper_call p (store_named (helped u t)) pool

-- ---- blocks

-- the method that an instruction of the original names
abbrev pub called : Original → Instr → Option MemberName
called O i = option_and_then (member_name O.class.pool) (index_of i.operands)

-- What stands in the duplicate for an instruction, which means this, and before which the types are h. The opcodes of invokevirtual, invokespecial and
-- invokestatic are 182, 183 and 184.
abbrev pub block_of : Original → Option Op → Option Types → Instr → Pool → Growth (List Instr)
block_of O (Some (GetStatic f)) h i pool = accessor_call O.method.places getter_named (field_at O.program f) i pool
block_of O (Some (PutStatic f)) h i pool = accessor_call O.method.places setter_named (field_at O.program f) i pool
block_of O (Some (GetField f d)) h i pool = accessor_call O.method.places getter_named (field_at O.program f) i pool
block_of O (Some (PutField f d)) h i pool = accessor_call O.method.places setter_named (field_at O.program f) i pool
block_of O (Some (LoadElement t)) h i pool = element_load O.method.places t (array_under 1 h) pool
block_of O (Some (StoreElement t)) h i pool = element_store O.method.places t (array_under (1 + word_places t) h) pool
block_of O (Some (InvokeStatic m)) h i pool = duplicate_call O.method.places 184 (called O i) i pool
block_of O (Some (InvokeSpecial m)) h i pool = duplicate_call O.method.places 183 (called O i) i pool
block_of O (Some (InvokeVirtual m d)) h i pool = duplicate_call O.method.places 182 (called O i) i pool
block_of O (Some (InvokeInterface m c)) h i pool = interface_call O.method.places (called O i) i pool
block_of O (Some (Load s n)) h i pool = Ok (load s (moved_to s O.method.places O.method.locals n) ∷ [], pool)
block_of O (Some (Store s n)) h i pool = Ok (store s (moved_to s O.method.places O.method.locals n) ∷ [], pool)
block_of O (Some (Increment n x)) h i pool = Ok (increment (moved O.method.places n) x ∷ [], pool)
block_of O o h i pool = Ok (i ∷ [], pool)

-- the block of an instruction with a number
abbrev pub numbered_block : Original → ℕ → Instr → Pool → Growth Block
numbered_block O n i pool = block_of O (slice_get O.method.ops n) (types_at O.table n) i pool >>= λ is. Ok (block i.pc is.0, is.1)

-- athrow, 191, that throws on
abbrev pub stub : List Instr
stub = plain 191 ∷ []

-- ---- the method

-- the flags without VARARGS, 0080, and with SYNTHETIC, 1000
abbrev pub duplicate_flags : ℕ → ℕ
duplicate_flags flags = bit_or (bit_and flags 0xff7f) 0x1000

-- what the code of a duplicate names: what its blocks do, and the class of conflicts
unfoldable pub refs_of : Original → List Instr → Pool → Growth (List Block × ℕ)
refs_of O is pool = do
  blocks ← grow_from (numbered_block O) 0 is pool
  conflict ← add_class blocks.1 conflict_class
  Ok ((blocks.0, conflict.0), conflict.1)

-- The blocks, and behind them the stub that throws a conflict on, past every entry of the method's own.
abbrev pub duplicate_bytes : Method → Code → List Block → ℕ → Result (List ℕ) Refusal
duplicate_bytes k code blocks conflict = of_method (printed k.name) (laid_bytes (code.max_stack + 1) (code.max_locals + added_locals k) blocks code.handlers (Some conflict) stub)

-- what else a duplicate names: its name and its descriptor, and the text Code
unfoldable pub texts_of : Method → Pool → Growth ((ℕ × ℕ) × ℕ)
texts_of k pool = do
  named ← typed_name (duplicate_named k.name).name (duplicate_named k.name).descriptor pool
  text ← add_text named.1 (codes "Code")
  Ok ((named.0, text.0), text.1)

unfoldable pub made_duplicate : Original → Coded → Pool → Growth Member
made_duplicate O coded pool = do
  refs ← refs_of O coded.instrs pool
  texts ← texts_of O.method refs.1
  bytes ← duplicate_bytes O.method coded.code refs.0.0 refs.0.1
  Ok (added_method (duplicate_flags O.member.flags) texts.0.0.0 texts.0.0.1 texts.0.1 bytes, texts.1)

unfoldable pub coded_duplicate : Original → Coded → Pool → Growth Member
coded_duplicate O coded pool = do
  arguments ← few_arguments O.program O.method coded.instrs
  places ← few_places O.method coded.code
  made_duplicate O coded pool

-- an abstract method has an abstract duplicate
unfoldable pub abstract_duplicate : Original → Pool → Growth Member
abstract_duplicate O pool = do
  arguments ← few_arguments O.program O.method []
  named ← typed_name (duplicate_named O.method.name).name (duplicate_named O.method.name).descriptor pool
  Ok (record { flags = duplicate_flags O.member.flags; name = named.0.0; descriptor = named.0.1; attributes = [] }, named.1)

abbrev pub duplicate_with : Original → Option Coded → Pool → Growth Member
duplicate_with O None pool = abstract_duplicate O pool
duplicate_with O (Some coded) pool = coded_duplicate O coded pool

-- the duplicate of a method, in a class that has room for so many more methods
unfoldable pub duplicate_of : ℕ → Original → Pool → Growth Member
duplicate_of room O pool = do
  coded ← decoded_member (record { class = O.class; member = O.member })
  fits ← room_for room (duplicate_named O.method.name)
  duplicate_with O coded pool
