-- What the instructions of a class's code mean (JVM Specification, Java SE 7, chapter 6): of original code, and of code that rewriting makes. An
-- instruction that is left out for good means nothing.
use Rattle.std.specs.Prelude.{ℕ, ℤ, pos, ◌-◌, ◌-ℤ◌, List, [], ◌∷◌, ◌++◌, length, Option, Some, None, Bool, true, false, ◌==◌, ◌&&◌, ◌||◌, nat_le, nat_eq, if◌then◌else◌, codes, bytes_eq, find, position, option_map, option_and_then}
use Rattle.std.specs.Option.{option_or}
use Rattle.jmodel.specs.declared.class_file.Constant.{Constant}
use Rattle.jmodel.specs.declared.class_file.Constant.TheVariants as constants
use Rattle.jmodel.specs.declared.class_file.Handler.{Handler}
use Rattle.jmodel.specs.declared.instruction.Operands.{Operands}
use Rattle.jmodel.specs.declared.instruction.Operands.TheVariants as operands
use Rattle.jmodel.specs.declared.instruction.Instr.{Instr}
use Rattle.jmodel.specs.declared.name.MethodName.{MethodName}
use Rattle.jmodel.specs.declared.value.Value.TheVariants as value
use Rattle.jmodel.specs.format.ClassFile.{Pool, ClassFile}
use Rattle.jmodel.specs.format.Pool.{entry, class_name, string, MemberName, field_name, member_name}
use Rattle.jmodel.specs.format.Descriptor.{Signature, places_of}
use Rattle.jmodel.specs.format.DescriptorReading.{signature_of}
use Rattle.jmodel.specs.format.Constants.{as_int, long_value}
use Rattle.objects.specs.linking.Members.{own_name, is_member}
use Rattle.objects.specs.linking.Classes.{Declared as DeclaredMember, full_name}
use Rattle.objects.specs.linking.Code.{number_at, table_cases, numbered_case}
use Rattle.objects.specs.linking.Each.{each}
use Rattle.objects.specs.declared.op.Sort.TheVariants as sort
use Rattle.objects.specs.declared.op.Width.{Width}
use Rattle.objects.specs.declared.op.Width.TheVariants as width
use Rattle.objects.specs.declared.op.WordType.{WordType}
use Rattle.objects.specs.declared.op.WordType.TheVariants as word
use Rattle.objects.specs.declared.op.Op.{Op}
use Rattle.objects.specs.declared.op.Op.TheVariants as op
use Rattle.objects.specs.declared.op.Binary.TheVariants.{Add, Subtract, Multiply, And, Or, Xor, Minimum, Maximum}
use Rattle.objects.specs.declared.op.Shift.TheVariants.{Left, Right, UnsignedRight}
use Rattle.objects.specs.declared.op.Division.TheVariants.{Quotient, Remainder}
use Rattle.objects.specs.declared.op.Unary.TheVariants.{Negate, Absolute}
use Rattle.objects.specs.declared.op.Conversion.TheVariants.{IntToByte, IntToChar, IntToShort, IntToLong, LongToInt}
use Rattle.objects.specs.declared.op.Test.{Test}
use Rattle.objects.specs.declared.op.Test.TheVariants.{Equal, NotEqual, Less, GreaterOrEqual, Greater, LessOrEqual}
use Rattle.objects.specs.declared.op.StackOp.TheVariants.{Nop, Pop, Pop2, Dup, DupX1, DupX2, Dup2, Dup2X1, Dup2X2, Swap}
use Rattle.objects.specs.declared.op.ContextCall.{ContextCall}
use Rattle.objects.specs.declared.op.ContextCall.TheVariants as context
use Rattle.objects.specs.declared.op.Catch.{Catch}
use Rattle.objects.specs.declared.op.Catches.{Catches}
use Rattle.objects.specs.declared.op.Catches.TheVariants.{Conflict, Any, Of}
use Rattle.objects.specs.semantics.WordTypes.{type_descriptor}
use Rattle.objects.specs.typing.TypeOrder.{object_class, context_class, conflict_class, descriptor_of}
use Rattle.objects.specs.semantics.Program.{Row, Field}
use Rattle.objects.specs.linking.LibraryMethods.{is_library_constructor, is_library_function}
use Rattle.objects.specs.linking.Resolution.{resolved_field, resolved_method, special_method}
use Rattle.objects.specs.linking.Layout.{class_read, type_number, array_over}

-- ---- what names stand for

-- A class, the classes among which its names are sought, and what their program has in the order of its numbers: types, texts, fields and the names of
-- methods; and where the object of the class's static fields lies.
pub record Symbols : Type 0 where
  pub class : ClassFile
  pub classes : List ClassFile
  pub types : List Row
  pub texts : List (List ℕ)
  pub fields : List Field
  pub methods : List MethodName
  pub base : ℕ

-- the name of the member that a name stands for
abbrev pub is_field_of : MethodName → Field → Bool
is_field_of n f = bytes_eq f.name n.name && (bytes_eq f.descriptor n.descriptor && bytes_eq f.class n.class)

-- the number of the field that a name stands for
abbrev pub field_number : Symbols → MemberName → Option ℕ
field_number s n = option_and_then (λ (k : DeclaredMember). position (is_field_of (full_name k)) s.fields) (resolved_field s.classes n)

abbrev pub is_method : MethodName → MethodName → Bool
is_method n k = bytes_eq k.name n.name && (bytes_eq k.descriptor n.descriptor && bytes_eq k.class n.class)

abbrev pub number_of : Symbols → DeclaredMember → Option ℕ
number_of s k = position (is_method (full_name k)) s.methods

-- the number of the method that a name stands for
abbrev pub method_number : Symbols → MemberName → Option ℕ
method_number s n = option_and_then (number_of s) (resolved_method s.classes n)

-- ---- instructions without operands

-- one of a row of opcodes
abbrev pub is_among : ℕ → ℕ → ℕ → Bool
is_among first last c = nat_le first c && nat_le c last

-- aconst_null, iconst_m1 to iconst_5, lconst_0 and lconst_1
abbrev pub constant_op : ℕ → Option Op
constant_op c =
    if c == 1 then Some (op.Constant (value.Ref 0))
    else if is_among 2 8 c then Some (op.Constant (value.Int (pos c -ℤ pos 3)))
    else if is_among 9 10 c then Some (op.Constant (value.Long (pos (c - 9))))
    else None

-- loads and stores of the first four locals
abbrev pub short_local_op : ℕ → Option Op
short_local_op c =
    if is_among 26 29 c then Some (op.Load sort.Int (c - 26))
    else if is_among 30 33 c then Some (op.Load sort.Long (c - 30))
    else if is_among 42 45 c then Some (op.Load sort.Reference (c - 42))
    else if is_among 59 62 c then Some (op.Store sort.Int (c - 59))
    else if is_among 63 66 c then Some (op.Store sort.Long (c - 63))
    else if is_among 75 78 c then Some (op.Store sort.Reference (c - 75))
    else None

-- the type of an element that the first of these opcodes and the next seven load or store; floats and doubles have none
abbrev pub element_type : ℕ → Option WordType
element_type n =
    if n == 0 then Some word.Int
    else if n == 1 then Some word.Long
    else if n == 4 then Some word.Reference
    else if n == 5 then Some word.Byte
    else if n == 6 then Some word.Char
    else if n == 7 then Some word.Short
    else None

abbrev pub element_op : ℕ → Option Op
element_op c =
    if is_among 46 53 c then option_map op.LoadElement (element_type (c - 46))
    else if is_among 79 86 c then option_map op.StoreElement (element_type (c - 79))
    else None

abbrev pub stack_op : ℕ → Option Op
stack_op c =
    if c == 0 then Some (op.Stack Nop)
    else if c == 87 then Some (op.Stack Pop)
    else if c == 88 then Some (op.Stack Pop2)
    else if c == 89 then Some (op.Stack Dup)
    else if c == 90 then Some (op.Stack DupX1)
    else if c == 91 then Some (op.Stack DupX2)
    else if c == 92 then Some (op.Stack Dup2)
    else if c == 93 then Some (op.Stack Dup2X1)
    else if c == 94 then Some (op.Stack Dup2X2)
    else if c == 95 then Some (op.Stack Swap)
    else None

-- arithmetic of a width, by the opcode for ints
abbrev pub arithmetic_of : Width → ℕ → Option Op
arithmetic_of w c =
    if c == 96 then Some (op.Binary w Add)
    else if c == 100 then Some (op.Binary w Subtract)
    else if c == 104 then Some (op.Binary w Multiply)
    else if c == 108 then Some (op.Divide w Quotient)
    else if c == 112 then Some (op.Divide w Remainder)
    else if c == 116 then Some (op.Unary w Negate)
    else if c == 120 then Some (op.Shift w Left)
    else if c == 122 then Some (op.Shift w Right)
    else if c == 124 then Some (op.Shift w UnsignedRight)
    else if c == 126 then Some (op.Binary w And)
    else if c == 128 then Some (op.Binary w Or)
    else if c == 130 then Some (op.Binary w Xor)
    else None

-- The opcode for longs follows that for ints.
abbrev pub arithmetic_op : ℕ → Option Op
arithmetic_op c = option_or (arithmetic_of width.Int c) (arithmetic_of width.Long (c - 1))

abbrev pub conversion_op : ℕ → Option Op
conversion_op c =
    if c == 133 then Some (op.Convert IntToLong)
    else if c == 136 then Some (op.Convert LongToInt)
    else if c == 145 then Some (op.Convert IntToByte)
    else if c == 146 then Some (op.Convert IntToChar)
    else if c == 147 then Some (op.Convert IntToShort)
    else if c == 148 then Some op.CompareLongs
    else None

-- what leaves the method
abbrev pub leaving_op : ℕ → Option Op
leaving_op c =
    if c == 172 then Some (op.ReturnValue sort.Int)
    else if c == 173 then Some (op.ReturnValue sort.Long)
    else if c == 176 then Some (op.ReturnValue sort.Reference)
    else if c == 177 then Some op.Return
    else if c == 191 then Some op.Throw
    else None

abbrev pub simple_op : ℕ → Option Op
simple_op c =
    if c == 190 then Some op.ArrayLength
    else option_or (constant_op c) (option_or (short_local_op c) (option_or (element_op c) (option_or (stack_op c)
    (option_or (arithmetic_op c) (option_or (conversion_op c) (leaving_op c))))))

-- ---- numbers and locals

-- a load or a store
abbrev pub local_op : ℕ → ℕ → Option Op
local_op c n =
    if c == 21 then Some (op.Load sort.Int n)
    else if c == 22 then Some (op.Load sort.Long n)
    else if c == 25 then Some (op.Load sort.Reference n)
    else if c == 54 then Some (op.Store sort.Int n)
    else if c == 55 then Some (op.Store sort.Long n)
    else if c == 58 then Some (op.Store sort.Reference n)
    else None

-- the instruction behind wide
abbrev pub wide_op : ℕ → ℕ → ℤ → Option Op
wide_op c n add = if c == 132 then Some (op.Increment n add) else local_op c n

-- the array type that newarray makes by its number; floats and doubles have none
abbrev pub primitive_array : ℤ → Option (List ℕ)
primitive_array (pos n) =
    if n == 4 then Some (codes "[Z")
    else if n == 5 then Some (codes "[C")
    else if n == 8 then Some (codes "[B")
    else if n == 9 then Some (codes "[S")
    else if n == 10 then Some (codes "[I")
    else if n == 11 then Some (codes "[J")
    else None
primitive_array n = None

abbrev pub new_array : Symbols → List ℕ → Option Op
new_array s n = option_map op.NewArray (type_number s.types n)

-- bipush, sipush and newarray
abbrev pub number_op : Symbols → ℕ → ℤ → Option Op
number_op s c n =
    if is_among 16 17 c then Some (op.Constant (value.Int n))
    else if c == 188 then option_and_then (new_array s) (primitive_array n)
    else None

-- ---- jumps

-- the test of an opcode, by its distance from the first of six
abbrev pub test_of : ℕ → Option Test
test_of n =
    if n == 0 then Some Equal
    else if n == 1 then Some NotEqual
    else if n == 2 then Some Less
    else if n == 3 then Some GreaterOrEqual
    else if n == 4 then Some Greater
    else if n == 5 then Some LessOrEqual
    else None

-- a jump to the instruction of a number
abbrev pub jump_to : ℕ → ℕ → Option Op
jump_to c to =
    if is_among 153 158 c then option_map (λ t. op.Branch t to) (test_of (c - 153))
    else if is_among 159 164 c then option_map (λ t. op.BranchInts t to) (test_of (c - 159))
    else if c == 165 then Some (op.BranchReferences true to)
    else if c == 166 then Some (op.BranchReferences false to)
    else if (c == 167) || (c == 200) then Some (op.Goto to)
    else if c == 198 then Some (op.BranchNull true to)
    else if c == 199 then Some (op.BranchNull false to)
    else None

abbrev pub jump_op : List Instr → ℕ → ℕ → Option Op
jump_op is c target = option_and_then (jump_to c) (number_at is target)

abbrev pub switch_to : Option ℕ → Option (List (ℤ × ℕ)) → Option Op
switch_to (Some other) (Some cases) = Some (op.Switch other cases)
switch_to other cases = None

abbrev pub switch_op : List Instr → ℕ → List (ℤ × ℕ) → Option Op
switch_op is other cases = switch_to (number_at is other) (each (numbered_case is) cases)

-- ---- constants and fields

-- ldc, ldc_w and ldc2_w
abbrev pub pushed_op : Symbols → Constant → Option Op
pushed_op s (constants.Integer n) = Some (op.Constant (value.Int (as_int n)))
pushed_op s (constants.Long n) = Some (op.Constant (value.Long n))
pushed_op s k = None

abbrev pub text_op : Symbols → List ℕ → Option Op
text_op s t = option_map op.Text (position (bytes_eq t) s.texts)

abbrev pub ldc_op : Symbols → ℕ → Option Op
ldc_op s i = option_or (option_and_then (text_op s) (string s.class.pool i)) (option_and_then (pushed_op s) (entry s.class.pool i))

-- the constant of a class's own long field, which rewriting added
abbrev pub added_address : ClassFile → MemberName → Option ℤ
added_address c n =
    if bytes_eq n.class (own_name c) && bytes_eq n.descriptor (codes "J") then option_and_then (long_value c.pool) (find (is_member c.pool n.name (codes "J")) c.fields)
    else None

-- whether it is the added field that holds the object of the class's static fields
abbrev pub is_base : ClassFile → MemberName → Bool
is_base c n = bytes_eq n.name (codes "__CLASS_BASE__") && (bytes_eq n.descriptor (descriptor_of object_class) && bytes_eq n.class (own_name c))

-- a static field; in rewritten code also one that rewriting added, which is a constant
abbrev pub get_static_op : Symbols → MemberName → Option Op
get_static_op s n =
    option_or (option_map op.GetStatic (field_number s n))
    (option_or (option_map (λ a. op.Constant (value.Long a)) (added_address s.class n))
    (if is_base s.class n then Some (op.Constant (value.Ref s.base)) else None))

-- an opcode from getstatic, 178, to putfield
abbrev pub field_op : Symbols → ℕ → MemberName → Option Op
field_op s c n =
    if c == 178 then get_static_op s n
    else if c == 179 then option_map op.PutStatic (field_number s n)
    else if c == 180 then option_map (λ f. op.GetField f (class_read s.classes n.class)) (field_number s n)
    else if c == 181 then option_map (λ f. op.PutField f (class_read s.classes n.class)) (field_number s n)
    else None

-- ---- calls

-- the functions of Math: the width by the descriptor, whose second letter it is, J or 74 for longs
abbrev pub width_in : List ℕ → Width
width_in [] = width.Int
width_in (c ∷ []) = width.Int
width_in (c ∷ d ∷ ds) = if d == 74 then width.Long else width.Int

abbrev pub function_op : MemberName → Option Op
function_op n =
    if bytes_eq n.name (codes "abs") then Some (op.Unary (width_in n.descriptor) Absolute)
    else if bytes_eq n.name (codes "min") then Some (op.Binary (width_in n.descriptor) Minimum)
    else Some (op.Binary (width_in n.descriptor) Maximum)

-- the lane's context
abbrev pub is_get_context : MemberName → Bool
is_get_context n = bytes_eq n.class (codes "org/deuce/transaction/ContextDelegator") && (bytes_eq n.name (codes "getInstance")
    && bytes_eq n.descriptor (codes "()Lorg/deuce/transaction/Context;"))

abbrev pub static_call_op : Symbols → MemberName → Option Op
static_call_op s n =
    if is_get_context n then Some op.GetContext
    else if is_library_function n then function_op n
    else option_map op.InvokeStatic (method_number s n)

abbrev pub parameter_places : List ℕ → Option ℕ
parameter_places d = option_map (λ (g : Signature). places_of g.parameters) (signature_of d)

-- a constructor of the library, or the method that invokespecial runs
abbrev pub special_call_op : Symbols → MemberName → Option Op
special_call_op s n =
    if is_library_constructor n then option_map (λ places. op.InitLibrary n.class places) (parameter_places n.descriptor)
    else option_map op.InvokeSpecial (option_and_then (number_of s) (special_method s.classes s.class n))

abbrev pub interface_call_op : Symbols → MemberName → Option Op
interface_call_op s n = option_map (λ m. op.InvokeInterface m n.class) (method_number s n)

-- ---- calls of the transaction's context, in code that rewriting makes

abbrev pub is_called : List ℕ → List ℕ → MemberName → Bool
is_called name descriptor n = bytes_eq n.name name && bytes_eq n.descriptor descriptor

abbrev pub word_types : List WordType
word_types = word.Boolean ∷ word.Byte ∷ word.Char ∷ word.Short ∷ word.Int ∷ word.Long ∷ word.Reference ∷ []

-- the type for which a text is a descriptor
abbrev pub type_with : (WordType → List ℕ) → List ℕ → Option WordType
type_with descriptor text = find (λ t. bytes_eq (descriptor t) text) word_types

-- The descriptors of reads and writes: the object, the value, and the place, which is a distance, J, for a field and an index, I, for an element.
abbrev pub read_descriptor : List ℕ → WordType → List ℕ
read_descriptor place t = codes "(Ljava/lang/Object;" ++ type_descriptor t ++ place ++ codes ")" ++ type_descriptor t

abbrev pub write_descriptor : List ℕ → WordType → List ℕ
write_descriptor place t = codes "(Ljava/lang/Object;" ++ type_descriptor t ++ place ++ codes ")V"

abbrev pub read_call : List ℕ → Option ContextCall
read_call d = option_or (option_map context.OnRead (type_with (read_descriptor (codes "J")) d)) (option_map context.OnReadElement (type_with (read_descriptor (codes "I")) d))

abbrev pub write_call : List ℕ → Option ContextCall
write_call d = option_or (option_map context.OnWrite (type_with (write_descriptor (codes "J")) d)) (option_map context.OnWriteElement (type_with (write_descriptor (codes "I")) d))

abbrev pub context_call : MemberName → Option ContextCall
context_call n =
    if is_called (codes "init") (codes "(II)V") n then Some context.Init
    else if is_called (codes "beforeReadAccess") (codes "(Ljava/lang/Object;J)V") n then Some context.BeforeRead
    else if is_called (codes "beforeReadAccess") (codes "(Ljava/lang/Object;I)V") n then Some context.BeforeReadElement
    else if bytes_eq n.name (codes "onReadAccess") then read_call n.descriptor
    else if bytes_eq n.name (codes "onWriteAccess") then write_call n.descriptor
    else if is_called (codes "commit") (codes "()Z") n then Some context.Commit
    else if is_called (codes "rollback") (codes "()V") n then Some context.Rollback
    else None

abbrev pub virtual_call_op : Symbols → MemberName → Option Op
virtual_call_op s n =
    if bytes_eq n.class context_class then option_map op.Context (context_call n)
    else option_map (λ m. op.InvokeVirtual m (class_read s.classes n.class)) (method_number s n)

-- an opcode from invokevirtual, 182, to invokeinterface
abbrev pub call_op : Symbols → ℕ → MemberName → Option Op
call_op s c n =
    if c == 182 then virtual_call_op s n
    else if c == 183 then special_call_op s n
    else if c == 184 then static_call_op s n
    else if c == 185 then interface_call_op s n
    else None

-- ---- classes

-- new, anewarray, checkcast and instanceof
abbrev pub class_op : Symbols → ℕ → List ℕ → Option Op
class_op s c n =
    if c == 187 then option_map op.New (type_number s.types n)
    else if c == 189 then new_array s (array_over n)
    else if c == 192 then Some (op.CheckCast n)
    else if c == 193 then Some (op.InstanceOf n)
    else None

-- ---- what an instruction means

-- one with an index of the pool
abbrev pub pool_op : Symbols → ℕ → ℕ → Option Op
pool_op s c i =
    if is_among 18 20 c then ldc_op s i
    else if is_among 178 181 c then option_and_then (field_op s c) (field_name s.class.pool i)
    else if is_among 182 185 c then option_and_then (call_op s c) (member_name s.class.pool i)
    else option_and_then (class_op s c) (class_name s.class.pool i)

-- what an opcode with its operands means, among instructions of one code
abbrev pub meaning : Symbols → List Instr → ℕ → Operands → Option Op
meaning s is c operands.Nothing = simple_op c
meaning s is c (operands.Number n) = number_op s c n
meaning s is c (operands.Local n) = local_op c n
meaning s is c (operands.LocalAdd n add) = Some (op.Increment n add)
meaning s is c (operands.Pool i) = pool_op s c i
meaning s is c (operands.Interface i count) = pool_op s c i
meaning s is c (operands.Dimensions i count) = None
meaning s is c (operands.Target t) = jump_op is c t
meaning s is c (operands.Table other low targets) = switch_op is other (table_cases low targets)
meaning s is c (operands.Lookup other pairs) = switch_op is other pairs
meaning s is c (operands.Wide w n add) = wide_op w n add

abbrev pub op_of : Symbols → List Instr → Instr → Option Op
op_of s is i = meaning s is i.op i.operands

abbrev pub ops_of : Symbols → List Instr → Option (List Op)
ops_of s is = each (op_of s is) is

-- ---- exception entries, by numbers of instructions (JVM Specification, Java SE 7, section 4.7.3)

-- the end may be that of the code
abbrev pub end_at : List Instr → ℕ → ℕ → Option ℕ
end_at is len pc = if nat_eq pc len then Some (length is) else number_at is pc

abbrev pub catches_named : List ℕ → Catches
catches_named n = if bytes_eq n conflict_class then Conflict else Of n

abbrev pub catches_of : Pool → ℕ → Option Catches
catches_of pool class = if class == 0 then Some Any else option_map catches_named (class_name pool class)

abbrev pub make_catch : Option ℕ → Option ℕ → Option ℕ → Option Catches → Option Catch
make_catch (Some from) (Some to) (Some at) (Some catches) = Some (record { from = from; to = to; at = at; catches = catches })
make_catch from to at catches = None

abbrev pub catch_of : Pool → List Instr → ℕ → Handler → Option Catch
catch_of pool is len h = make_catch (number_at is h.start) (end_at is len h.end) (number_at is h.handler) (catches_of pool h.catch_type)
