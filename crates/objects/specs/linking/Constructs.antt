-- What is left out for good: constructs of Java that a taken method may not have, and names in it that lead nowhere. Which instruction does what
-- is the JVM Specification's, Java SE 7, section 6.5; that these are left out is this project's own rule.
use Rattle.std.specs.Prelude.{ℕ, pos, List, [], ◌∷◌, Option, Some, None, Result, Ok, Err, Bool, true, false, not, ◌==◌, ◌&&◌, ◌||◌, nat_lt, nat_le, int_le, if◌then◌else◌, codes, bytes_eq, bit_and, option_map, option_and_then, is_some, drop}
use Rattle.std.specs.List.{list_any}
use Rattle.std.specs.Option.{option_or}
use Rattle.jmodel.specs.declared.class_file.Constant.{Constant}
use Rattle.jmodel.specs.declared.class_file.Constant.TheVariants as constants
use Rattle.jmodel.specs.declared.class_file.FieldType.{FieldType}
use Rattle.jmodel.specs.declared.class_file.FieldType.TheVariants as types
use Rattle.jmodel.specs.declared.class_file.Handler.{Handler}
use Rattle.jmodel.specs.declared.instruction.Operands.{Operands}
use Rattle.jmodel.specs.declared.instruction.Operands.TheVariants as operands
use Rattle.jmodel.specs.declared.instruction.Instr.{Instr}
use Rattle.jmodel.specs.declared.refusal.Refusal.{Refusal}
use Rattle.jmodel.specs.declared.refusal.Refusal.TheVariants.{Construct, UnknownClass}
use Rattle.jmodel.specs.format.ClassFile.{Member, Pool, ClassFile}
use Rattle.jmodel.specs.format.Name.{printed}
use Rattle.jmodel.specs.format.Pool.{entry, class_name, MemberName, member_name}
use Rattle.jmodel.specs.format.Descriptor.{Signature, is_array_name}
use Rattle.jmodel.specs.format.DescriptorReading.{brackets, type_of, signature_of}
use Rattle.objects.specs.linking.Members.{is_static, own_name, descriptor_of}
use Rattle.objects.specs.linking.Superclasses.{class_named, lineage}
use Rattle.objects.specs.linking.Classes.{Declared, full_name}
use Rattle.objects.specs.linking.Code.{Coded, decoded, widened}
use Rattle.objects.specs.linking.Taken.{index_of, invoked}
use Rattle.objects.specs.linking.Faults.{first_fault}
use Rattle.objects.specs.linking.LibraryMethods.{is_library_constructor, is_library_function, is_library_method, is_object_method}
use Rattle.objects.specs.linking.Resolution.{is_interface, holds_of, is_in_folder, names_interface, is_known, resolved_field, resolved_method}

-- ---- names

-- the field that an instruction names, 178 to 181
abbrev pub accessed : Pool → Instr → Option MemberName
accessed pool i = if nat_le 178 i.op && nat_le i.op 181 then option_and_then (member_name pool) (index_of i.operands) else None

-- the class that new, anewarray, checkcast or instanceof names
abbrev pub named_class : Pool → Instr → Option (List ℕ)
named_class pool i =
    if (i.op == 187) || (i.op == 189) || (i.op == 192) || (i.op == 193) then option_and_then (class_name pool) (index_of i.operands) else None

abbrev pub has_flag : ℕ → Member → Bool
has_flag flag m = not (bit_and m.flags flag == 0)

-- ---- floats

-- float or double; an array of these is none
abbrev pub is_floating : FieldType → Bool
is_floating types.Float = true
is_floating types.Double = true
is_floating t = false

abbrev pub has_floats : Signature → Bool
has_floats s = list_any is_floating s.parameters || holds_of is_floating s.result

abbrev pub is_float_field : MemberName → Bool
is_float_field n = is_floating (type_of n.descriptor)

-- whether a method of a descriptor takes or gives one
abbrev pub is_float_descriptor : List ℕ → Bool
is_float_descriptor d = holds_of has_floats (signature_of d)

abbrev pub is_float_method : MemberName → Bool
is_float_method n = is_float_descriptor n.descriptor

-- from one opcode to another
abbrev pub is_among : ℕ → ℕ → ℕ → Bool
is_among first last c = nat_le first c && nat_le c last

-- The instructions of floats and doubles: constants, loads, those of arrays, stores, those of arrays, arithmetic, conversions, comparisons,
-- returns.
abbrev pub is_float_op : ℕ → Bool
is_float_op c = is_among 11 15 c || is_among 23 24 c || is_among 34 41 c || is_among 48 49 c
    || is_among 56 57 c || is_among 67 74 c || is_among 81 82 c
    || is_among 98 99 c || is_among 102 103 c || is_among 106 107 c || is_among 110 111 c || is_among 114 115 c || is_among 118 119 c
    || is_among 134 135 c || is_among 137 144 c || is_among 149 152 c || is_among 174 175 c

abbrev pub is_float_constant : Constant → Bool
is_float_constant (constants.Float bits) = true
is_float_constant (constants.Double bits) = true
is_float_constant c = false

-- the entry that ldc, ldc_w or ldc2_w puts on the stack
abbrev pub entry_pushed : Pool → Instr → Option Constant
entry_pushed pool i = if is_among 18 20 i.op then option_and_then (entry pool) (index_of i.operands) else None

-- newarray of floats or doubles
abbrev pub is_float_array : ℕ → Operands → Bool
is_float_array c (operands.Number n) = (c == 188) && int_le (pos 6) n && int_le n (pos 7)
is_float_array c o = false

abbrev pub is_float : Pool → Instr → Bool
is_float pool i = is_float_op (widened i.op i.operands) || is_float_array i.op i.operands || holds_of is_float_constant (entry_pushed pool i)
    || holds_of is_float_field (accessed pool i) || holds_of is_float_method (invoked pool i)

-- ---- other instructions

-- jsr, jsr_w and ret
abbrev pub is_subroutine : Instr → Bool
is_subroutine i = (i.op == 168) || (i.op == 201) || (widened i.op i.operands == 169)

abbrev pub is_class_constant : Constant → Bool
is_class_constant (constants.Class name) = true
is_class_constant c = false

-- ---- classes that are named

-- the class at the core of a class's name: of an array type that of its elements, and of theirs; none where these aren't references
abbrev pub reference_name : FieldType → Option (List ℕ)
reference_name (types.Reference name) = Some name
reference_name t = None

abbrev pub innermost : List ℕ → Option (List ℕ)
innermost name = if is_array_name name then reference_name (type_of (drop (brackets name) name)) else Some name

-- a class at the core that is neither of the folder nor of the library
abbrev pub unknown_core : List ClassFile → Option (List ℕ) → Option Refusal
unknown_core cs None = None
unknown_core cs (Some name) = if is_known cs name then None else Some (UnknownClass name)

abbrev pub unknown_in : List ClassFile → Option (List ℕ) → Option Refusal
unknown_in cs name = unknown_core cs (option_and_then innermost name)

-- an interface or an abstract class, by the flags 0200 and 0400
abbrev pub is_abstract : ClassFile → Bool
is_abstract c = not (bit_and c.flags 0x600 == 0)

-- of which new makes no object: an array type, an interface or an abstract class
abbrev pub has_no_object : List ClassFile → List ℕ → Bool
has_no_object cs name = is_array_name name || holds_of is_abstract (class_named cs name)

-- new, 187, of one of those; anewarray, 189, that makes an array of more than 255 dimensions
abbrev pub is_bad_new : List ClassFile → ℕ → List ℕ → Bool
is_bad_new cs c name = (c == 187) && has_no_object cs name || (c == 189) && nat_lt 254 (brackets name)

-- ---- members that are named

abbrev pub is_in_interface : Declared → Bool
is_in_interface k = is_interface k.class

-- a field of no class of the folder; no class of the library has any
abbrev pub is_outside_field : List ClassFile → MemberName → Bool
is_outside_field cs n = not (is_in_folder cs n.class)

-- A method that neither the folder nor the library has: of another class, of an array type, or of a library class that has none of the name here. Or
-- one that Object declares in Java, where an interface is named or the found one is in an interface.
abbrev pub is_library_call : List ClassFile → MemberName → Bool
is_library_call cs n =
    if is_in_folder cs n.class then is_object_method n && (names_interface cs n.class || holds_of is_in_interface (resolved_method cs n))
    else not (is_library_method n)

-- the class is of the folder, and what is named stands for nothing
abbrev pub is_unresolved : List ClassFile → (MemberName → Option Declared) → MemberName → Bool
is_unresolved cs resolved n = is_in_folder cs n.class && not (is_some (resolved n))

abbrev pub is_interface_field : List ClassFile → MemberName → Bool
is_interface_field cs n = holds_of is_in_interface (resolved_field cs n)

-- a member of an instance where a static one is due, or the reverse
abbrev pub is_misused : Bool → Declared → Bool
is_misused true k = not (is_static k.member)
is_misused false k = is_static k.member

-- getstatic and putstatic, 178 and 179, take static fields alone, getfield and putfield others
abbrev pub is_bad_access : List ClassFile → ℕ → MemberName → Bool
is_bad_access cs c n = holds_of (is_misused (nat_le c 179)) (resolved_field cs n)

-- invokestatic, 184, takes static methods alone, the other invokes others
abbrev pub is_bad_static : List ClassFile → ℕ → MemberName → Bool
is_bad_static cs c n =
    if is_in_folder cs n.class then holds_of (is_misused (c == 184)) (resolved_method cs n)
    else is_library_function n && not (c == 184) || is_library_constructor n && (c == 184)

-- invokeinterface, 185, names an interface, and no other invoke does
abbrev pub is_bad_interface : List ClassFile → ℕ → MemberName → Bool
is_bad_interface cs c n = if c == 185 then not (names_interface cs n.class) else names_interface cs n.class

abbrev pub is_elsewhere : List ℕ → Declared → Bool
is_elsewhere name k = not (bytes_eq (own_name k.class) name)

-- no method of the name <clinit> is called; one of the name <init> by invokespecial, 183, alone, and of the named class alone
abbrev pub is_bad_special_name : List ClassFile → ℕ → MemberName → Bool
is_bad_special_name cs c n = bytes_eq n.name (codes "<clinit>")
    || bytes_eq n.name (codes "<init>") && (not (c == 183) || holds_of (is_elsewhere n.class) (resolved_method cs n))

-- invokespecial of a method that is no constructor names the class that it stands in, or one above it
abbrev pub is_bad_special : List ClassFile → ClassFile → ℕ → MemberName → Bool
is_bad_special cs current c n =
    (c == 183) && not (bytes_eq n.name (codes "<init>")) && not (list_any (λ d. bytes_eq (own_name d) n.class) (lineage cs (own_name current)))

abbrev pub is_bad_call : List ClassFile → ClassFile → ℕ → MemberName → Bool
is_bad_call cs current c n = is_bad_static cs c n || is_bad_interface cs c n || is_bad_special_name cs c n || is_bad_special cs current c n

-- ---- the faults of a method

-- a construct of a kind, in a method, at a place of its code
abbrev pub construct : Declared → ℕ → List ℕ → Refusal
construct k pc kind = Construct kind (printed (full_name k)) (pos pc)

-- the first of these kinds that is there
abbrev pub first_kind : List (List ℕ × Bool) → Option (List ℕ)
first_kind [] = None
first_kind (x ∷ xs) = if x.1 then Some x.0 else first_kind xs

abbrev pub kind_fault : Declared → ℕ → List (List ℕ × Bool) → Option Refusal
kind_fault k pc xs = option_map (construct k pc) (first_kind xs)

-- what the flags 0100 and 0020 and the descriptor say of the whole method; it is told at 0
abbrev pub whole_kinds : Declared → List (List ℕ × Bool)
whole_kinds k = (codes "Native", has_flag 0x100 k.member) ∷ (codes "Synchronized", has_flag 0x20 k.member)
    ∷ (codes "Float", is_float_descriptor (descriptor_of k.class.pool k.member)) ∷ []

abbrev pub whole_fault : Declared → Option Refusal
whole_fault k = kind_fault k 0 (whole_kinds k)

-- the kinds of an instruction, those before an unknown class
abbrev pub first_kinds : Pool → Instr → List (List ℕ × Bool)
first_kinds pool i = (codes "Float", is_float pool i) ∷ (codes "JsrRet", is_subroutine i) ∷ (codes "Monitor", is_among 194 195 i.op)
    ∷ (codes "MultiArray", i.op == 197) ∷ (codes "ClassLiteral", holds_of is_class_constant (entry_pushed pool i)) ∷ []

-- and those behind it
abbrev pub last_kinds : List ClassFile → ClassFile → Instr → List (List ℕ × Bool)
last_kinds cs c i = (codes "BadNew", holds_of (is_bad_new cs i.op) (named_class c.pool i))
    ∷ (codes "LibraryCall", holds_of (is_outside_field cs) (accessed c.pool i) || holds_of (is_library_call cs) (invoked c.pool i))
    ∷ (codes "Unresolved", holds_of (is_unresolved cs (resolved_field cs)) (accessed c.pool i) || holds_of (is_unresolved cs (resolved_method cs)) (invoked c.pool i))
    ∷ (codes "InterfaceField", holds_of (is_interface_field cs) (accessed c.pool i))
    ∷ (codes "BadCall", holds_of (is_bad_access cs i.op) (accessed c.pool i) || holds_of (is_bad_call cs c i.op) (invoked c.pool i)) ∷ []

abbrev pub instr_fault : List ClassFile → Declared → Instr → Option Refusal
instr_fault cs k i =
    option_or (kind_fault k i.pc (first_kinds k.class.pool i))
    (option_or (unknown_in cs (named_class k.class.pool i))
    (kind_fault k i.pc (last_kinds cs k.class i)))

-- an unknown class that an exception entry catches whose handler stands at a place
abbrev pub catch_fault : List ClassFile → Pool → ℕ → Handler → Option Refusal
catch_fault cs pool pc h = if h.handler == pc then unknown_in cs (class_name pool h.catch_type) else None

-- the fault at a place: of the entries that lead to it, in their order, else of the instruction
abbrev pub place_fault : List ClassFile → Declared → List Handler → Instr → Option Refusal
place_fault cs k handlers i = option_or (first_fault (catch_fault cs k.class.pool i.pc) handlers) (instr_fault cs k i)

abbrev pub code_construct : List ClassFile → Declared → Result Coded Refusal → Option Refusal
code_construct cs k (Ok x) = first_fault (place_fault cs k x.code.handlers) x.instrs
code_construct cs k (Err r) = None

-- The first construct of a method that is left out: of the whole method, else of its code, by places.
abbrev pub construct_fault : List ClassFile → Declared → Option Refusal
construct_fault cs k = option_or (whole_fault k) (code_construct cs k (decoded k.class k.member))
