-- What a method is refused for, computed: for each kind of construct that is left out a method with it, in a folder of the classes A, B and C, and the interface I.
use Rattle.std.proofs.Common.{◌≡◌, ℕ, List, [], ◌∷◌, Option, Some, None, refl}
use Rattle.std.specs.Prelude.{pos, codes}
use Rattle.jmodel.specs.declared.class_file.Constant.TheVariants.{Utf8, Class, Float, NameAndType}
use Rattle.jmodel.specs.declared.class_file.Constant.TheVariants as constants
use Rattle.jmodel.specs.declared.class_file.Handler.{Handler}
use Rattle.jmodel.specs.declared.refusal.Refusal.{Refusal}
use Rattle.jmodel.specs.declared.refusal.Refusal.TheVariants.{UnknownClass, Construct}
use Rattle.jmodel.specs.format.ClassFile.{Attribute, Member, Pool, ClassFile, code_spelling}
use Rattle.jmodel.specs.format.DescriptorReading.{element_rest, type_rest, type_of, types_at, result_of, signature_of, is_field_descriptor}
use Rattle.jmodel.specs.format.Reading.{number_at, run_at, items_at}
use Rattle.jmodel.specs.format.ClassReading.{attributes_at, handlers_at, handler_at, body_at, code_at}
use Rattle.jmodel.specs.format.InstructionReading.{signed_at, target_at, array_type_at, entry_operand_at, interface_at, dimensions_at, jump_at, wide_at, parts_at, instrs_at, targets_fit, instrs_of}
use Rattle.objects.specs.linking.Constructs.{construct_fault}

-- ---- the folder

-- the pool of each of the classes
abbrev pool : Pool
pool =
    Class 2 ∷
    Utf8 (codes "A") ∷
    Class 4 ∷
    Utf8 (codes "java/lang/Object") ∷
    Class 6 ∷
    Utf8 (codes "I") ∷
    Utf8 (codes "Code") ∷
    Utf8 (codes "m") ∷
    Utf8 (codes "()V") ∷
    Utf8 (codes "(F)V") ∷
    Utf8 (codes "x") ∷
    Utf8 (codes "F") ∷
    Float 0 ∷
    Class 15 ∷
    Utf8 (codes "[[LGone;") ∷
    Class 17 ∷
    Utf8 (codes "java/lang/System") ∷
    NameAndType 19 9 ∷
    Utf8 (codes "gc") ∷
    constants.Method 16 18 ∷
    constants.Method 1 18 ∷
    NameAndType 11 23 ∷
    Utf8 (codes "Z") ∷
    constants.Field 1 22 ∷
    NameAndType 8 9 ∷
    constants.Method 1 25 ∷
    constants.InterfaceMethod 1 25 ∷
    NameAndType 11 12 ∷
    constants.Field 1 28 ∷
    NameAndType 31 32 ∷
    Utf8 (codes "clone") ∷
    Utf8 (codes "()Ljava/lang/Object;") ∷
    Class 34 ∷
    Utf8 (codes "[I") ∷
    constants.Method 33 30 ∷
    NameAndType 40 41 ∷
    constants.InterfaceMethod 5 36 ∷
    Class 42 ∷
    constants.Method 38 43 ∷
    Utf8 (codes "toString") ∷
    Utf8 (codes "()Ljava/lang/String;") ∷
    Utf8 (codes "java/lang/Math") ∷
    NameAndType 44 45 ∷
    Utf8 (codes "abs") ∷
    Utf8 (codes "(I)I") ∷
    NameAndType 47 9 ∷
    Utf8 (codes "<clinit>") ∷
    constants.Method 1 46 ∷
    NameAndType 50 9 ∷
    Utf8 (codes "<init>") ∷
    constants.Method 1 49 ∷
    Class 53 ∷
    Utf8 (codes "B") ∷
    constants.Method 52 49 ∷
    constants.Method 3 49 ∷
    NameAndType 57 9 ∷
    Utf8 (codes "g") ∷
    constants.Method 52 56 ∷
    Class 60 ∷
    Utf8 (codes "C") ∷
    constants.Method 59 56 ∷
    NameAndType 63 23 ∷
    Utf8 (codes "y") ∷
    constants.Field 1 62 ∷
    []

-- an interface with a field
abbrev interface : ClassFile
interface = record { minor = 0; major = 49; pool = pool; flags = 0x600; this_class = 5; super_class = 3; interfaces = []; fields = record { flags = 25; name = 11; descriptor = 23; attributes = [] } ∷ []; methods = []; attributes = [] }

abbrev method : ℕ → ℕ → Member
method flags name = record { flags = flags; name = name; descriptor = 9; attributes = [] }

-- a class with this name's index, the field y, a constructor and the method g()V
abbrev class_of : ℕ → ClassFile
class_of name = record {
  minor = 0;
  major = 49;
  pool = pool;
  flags = 33;
  this_class = name;
  super_class = 3;
  interfaces = [];
  fields = record { flags = 0; name = 63; descriptor = 23; attributes = [] } ∷ [];
  methods = method 1 50 ∷ method 1 57 ∷ [];
  attributes = [];
}

-- a class with a method and a static initialiser, which stands under B and implements the interface
abbrev class_with : Member → ClassFile
class_with m = record { minor = 0; major = 49; pool = pool; flags = 33; this_class = 1; super_class = 52; interfaces = 5 ∷ []; fields = []; methods = m ∷ method 8 47 ∷ []; attributes = [] }

abbrev code_attribute : List ℕ → List Handler → Attribute
code_attribute code handlers = record { name = 7; bytes = code_spelling (record { max_stack = 2; max_locals = 2; code = code; handlers = handlers; attributes = [] }) }

-- the static method m()V with this code
abbrev coded : List ℕ → Member
coded code = record { flags = 9; name = 8; descriptor = 9; attributes = code_attribute code [] ∷ [] }

-- one with the code nop; return, whose second instruction handles what the first throws, of a class
abbrev caught : ℕ → Member
caught class = record { flags = 9; name = 8; descriptor = 9; attributes = code_attribute (0 ∷ 177 ∷ []) (record { start = 0; end = 1; handler = 1; catch_type = class } ∷ []) ∷ [] }

-- what is told of the method
abbrev told : Member → Option Refusal
told m = construct_fault (class_with m ∷ class_of 52 ∷ class_of 59 ∷ interface ∷ []) (record { class = class_with m; member = m })

abbrev construct_at : List ℕ → ℕ → Option Refusal
construct_at kind pc = Some (Construct kind (codes "A.m()V") (pos pc))

-- ---- nothing is left out

-- iconst_0; pop; return
pub fine : told (coded (3 ∷ 87 ∷ 177 ∷ [])) ≡ None
unfolding code_at attributes_at handlers_at body_at number_at run_at items_at element_rest type_rest type_of types_at result_of signature_of is_field_descriptor entry_operand_at parts_at instrs_at targets_fit instrs_of
fine = refl

-- ---- the whole method

pub native : told (record { flags = 0x109; name = 8; descriptor = 9; attributes = [] }) ≡ construct_at (codes "Native") 0
native = refl

pub synchronized : told (record { flags = 0x29; name = 8; descriptor = 9; attributes = [] }) ≡ construct_at (codes "Synchronized") 0
synchronized = refl

pub float_parameter : told (record { flags = 9; name = 8; descriptor = 10; attributes = [] }) ≡ Some (Construct (codes "Float") (codes "A.m(F)V") (pos 0))
unfolding element_rest type_rest type_of types_at result_of signature_of is_field_descriptor
float_parameter = refl

-- ---- instructions

-- nop; fconst_0; pop; return
pub float_constant : told (coded (0 ∷ 11 ∷ 87 ∷ 177 ∷ [])) ≡ construct_at (codes "Float") 1
unfolding code_at attributes_at handlers_at body_at number_at run_at items_at element_rest type_rest type_of types_at result_of signature_of is_field_descriptor entry_operand_at parts_at instrs_at targets_fit instrs_of
float_constant = refl

-- ldc of a Float
pub float_entry : told (coded (18 ∷ 13 ∷ 87 ∷ 177 ∷ [])) ≡ construct_at (codes "Float") 0
unfolding code_at attributes_at handlers_at body_at number_at run_at items_at element_rest type_rest type_of types_at result_of signature_of is_field_descriptor entry_operand_at parts_at instrs_at targets_fit instrs_of
float_entry = refl

-- getstatic of a field of type F, which no class has
pub float_field : told (coded (178 ∷ 0 ∷ 29 ∷ 87 ∷ 177 ∷ [])) ≡ construct_at (codes "Float") 0
unfolding code_at attributes_at handlers_at body_at number_at run_at items_at element_rest type_rest type_of types_at result_of signature_of is_field_descriptor entry_operand_at parts_at instrs_at targets_fit instrs_of
float_field = refl

-- newarray of doubles
pub float_array : told (coded (3 ∷ 188 ∷ 7 ∷ 87 ∷ 177 ∷ [])) ≡ construct_at (codes "Float") 1
unfolding code_at attributes_at handlers_at body_at number_at run_at items_at element_rest type_rest type_of types_at result_of signature_of is_field_descriptor entry_operand_at parts_at instrs_at targets_fit instrs_of array_type_at
float_array = refl

-- jsr to the next instruction
pub subroutine : told (coded (168 ∷ 0 ∷ 3 ∷ 177 ∷ [])) ≡ construct_at (codes "JsrRet") 0
unfolding code_at attributes_at handlers_at body_at number_at run_at items_at element_rest type_rest type_of types_at result_of signature_of is_field_descriptor entry_operand_at parts_at instrs_at targets_fit instrs_of target_at signed_at jump_at
subroutine = refl

-- ret behind wide
pub wide_ret : told (coded (196 ∷ 169 ∷ 0 ∷ 1 ∷ 177 ∷ [])) ≡ construct_at (codes "JsrRet") 0
unfolding code_at attributes_at handlers_at body_at number_at run_at items_at element_rest type_rest type_of types_at result_of signature_of is_field_descriptor entry_operand_at parts_at instrs_at targets_fit instrs_of wide_at
wide_ret = refl

-- aconst_null; monitorenter; return
pub monitor : told (coded (1 ∷ 194 ∷ 177 ∷ [])) ≡ construct_at (codes "Monitor") 1
unfolding code_at attributes_at handlers_at body_at number_at run_at items_at element_rest type_rest type_of types_at result_of signature_of is_field_descriptor entry_operand_at parts_at instrs_at targets_fit instrs_of
monitor = refl

pub multi_array : told (coded (3 ∷ 197 ∷ 0 ∷ 14 ∷ 1 ∷ 87 ∷ 177 ∷ [])) ≡ construct_at (codes "MultiArray") 1
unfolding code_at attributes_at handlers_at body_at number_at run_at items_at element_rest type_rest type_of types_at result_of signature_of is_field_descriptor entry_operand_at parts_at instrs_at targets_fit instrs_of dimensions_at
multi_array = refl

-- ldc of a Class
pub class_literal : told (coded (18 ∷ 1 ∷ 87 ∷ 177 ∷ [])) ≡ construct_at (codes "ClassLiteral") 0
unfolding code_at attributes_at handlers_at body_at number_at run_at items_at element_rest type_rest type_of types_at result_of signature_of is_field_descriptor entry_operand_at parts_at instrs_at targets_fit instrs_of
class_literal = refl

-- ---- classes

-- aconst_null; checkcast of an array of arrays of a class that is nowhere; pop; return
pub unknown : told (coded (1 ∷ 192 ∷ 0 ∷ 14 ∷ 87 ∷ 177 ∷ [])) ≡ Some (UnknownClass (codes "Gone"))
unfolding code_at attributes_at handlers_at body_at number_at run_at items_at element_rest type_rest type_of types_at result_of signature_of is_field_descriptor entry_operand_at parts_at instrs_at targets_fit instrs_of
unknown = refl

-- nop; return, where an entry leads to the return and catches such a class
pub unknown_catch : told (caught 14) ≡ Some (UnknownClass (codes "Gone"))
unfolding code_at attributes_at handlers_at body_at number_at run_at items_at element_rest type_rest type_of types_at result_of signature_of is_field_descriptor entry_operand_at parts_at instrs_at targets_fit instrs_of handler_at
unknown_catch = refl

-- one that catches Object
pub known_catch : told (caught 3) ≡ None
unfolding code_at attributes_at handlers_at body_at number_at run_at items_at element_rest type_rest type_of types_at result_of signature_of is_field_descriptor entry_operand_at parts_at instrs_at targets_fit instrs_of handler_at
known_catch = refl

pub new_interface : told (coded (187 ∷ 0 ∷ 5 ∷ 87 ∷ 177 ∷ [])) ≡ construct_at (codes "BadNew") 0
unfolding code_at attributes_at handlers_at body_at number_at run_at items_at element_rest type_rest type_of types_at result_of signature_of is_field_descriptor entry_operand_at parts_at instrs_at targets_fit instrs_of
new_interface = refl

-- ---- fields and methods

-- System.gc()
pub library : told (coded (184 ∷ 0 ∷ 20 ∷ 177 ∷ [])) ≡ construct_at (codes "LibraryCall") 0
unfolding code_at attributes_at handlers_at body_at number_at run_at items_at element_rest type_rest type_of types_at result_of signature_of is_field_descriptor entry_operand_at parts_at instrs_at targets_fit instrs_of
library = refl

-- clone() of an array
pub array_clone : told (coded (1 ∷ 182 ∷ 0 ∷ 35 ∷ 87 ∷ 177 ∷ [])) ≡ construct_at (codes "LibraryCall") 1
unfolding code_at attributes_at handlers_at body_at number_at run_at items_at element_rest type_rest type_of types_at result_of signature_of is_field_descriptor entry_operand_at parts_at instrs_at targets_fit instrs_of
array_clone = refl

-- toString() of an interface
pub object_method : told (coded (1 ∷ 185 ∷ 0 ∷ 37 ∷ 1 ∷ 0 ∷ 87 ∷ 177 ∷ [])) ≡ construct_at (codes "LibraryCall") 1
unfolding code_at attributes_at handlers_at body_at number_at run_at items_at element_rest type_rest type_of types_at result_of signature_of is_field_descriptor entry_operand_at parts_at instrs_at targets_fit instrs_of interface_at
object_method = refl

-- gc() of the class itself
pub unresolved : told (coded (184 ∷ 0 ∷ 21 ∷ 177 ∷ [])) ≡ construct_at (codes "Unresolved") 0
unfolding code_at attributes_at handlers_at body_at number_at run_at items_at element_rest type_rest type_of types_at result_of signature_of is_field_descriptor entry_operand_at parts_at instrs_at targets_fit instrs_of
unresolved = refl

-- the field x, which the class has of its interface
pub interface_field : told (coded (178 ∷ 0 ∷ 24 ∷ 87 ∷ 177 ∷ [])) ≡ construct_at (codes "InterfaceField") 0
unfolding code_at attributes_at handlers_at body_at number_at run_at items_at element_rest type_rest type_of types_at result_of signature_of is_field_descriptor entry_operand_at parts_at instrs_at targets_fit instrs_of
interface_field = refl

-- invokevirtual of the static method m()
pub bad_static : told (coded (1 ∷ 182 ∷ 0 ∷ 26 ∷ 177 ∷ [])) ≡ construct_at (codes "BadCall") 1
unfolding code_at attributes_at handlers_at body_at number_at run_at items_at element_rest type_rest type_of types_at result_of signature_of is_field_descriptor entry_operand_at parts_at instrs_at targets_fit instrs_of
bad_static = refl

-- invokeinterface of the class
pub bad_interface : told (coded (1 ∷ 185 ∷ 0 ∷ 27 ∷ 1 ∷ 0 ∷ 177 ∷ [])) ≡ construct_at (codes "BadCall") 1
unfolding code_at attributes_at handlers_at body_at number_at run_at items_at element_rest type_rest type_of types_at result_of signature_of is_field_descriptor entry_operand_at parts_at instrs_at targets_fit instrs_of interface_at
bad_interface = refl

-- iconst_0; invokestatic Math.abs(I)I; pop; return
pub library_function : told (coded (3 ∷ 184 ∷ 0 ∷ 39 ∷ 87 ∷ 177 ∷ [])) ≡ None
unfolding code_at attributes_at handlers_at body_at number_at run_at items_at element_rest type_rest type_of types_at result_of signature_of is_field_descriptor entry_operand_at parts_at instrs_at targets_fit instrs_of
library_function = refl

-- the same by invokevirtual
pub library_reverse : told (coded (3 ∷ 182 ∷ 0 ∷ 39 ∷ 87 ∷ 177 ∷ [])) ≡ construct_at (codes "BadCall") 1
unfolding code_at attributes_at handlers_at body_at number_at run_at items_at element_rest type_rest type_of types_at result_of signature_of is_field_descriptor entry_operand_at parts_at instrs_at targets_fit instrs_of
library_reverse = refl

-- getstatic of the field y, which each object has
pub static_access : told (coded (178 ∷ 0 ∷ 64 ∷ 87 ∷ 177 ∷ [])) ≡ construct_at (codes "BadCall") 0
unfolding code_at attributes_at handlers_at body_at number_at run_at items_at element_rest type_rest type_of types_at result_of signature_of is_field_descriptor entry_operand_at parts_at instrs_at targets_fit instrs_of
static_access = refl

-- and getfield
pub access : told (coded (1 ∷ 180 ∷ 0 ∷ 64 ∷ 87 ∷ 177 ∷ [])) ≡ None
unfolding code_at attributes_at handlers_at body_at number_at run_at items_at element_rest type_rest type_of types_at result_of signature_of is_field_descriptor entry_operand_at parts_at instrs_at targets_fit instrs_of
access = refl

-- invokestatic of the static initialiser
pub initialiser : told (coded (184 ∷ 0 ∷ 48 ∷ 177 ∷ [])) ≡ construct_at (codes "BadCall") 0
unfolding code_at attributes_at handlers_at body_at number_at run_at items_at element_rest type_rest type_of types_at result_of signature_of is_field_descriptor entry_operand_at parts_at instrs_at targets_fit instrs_of
initialiser = refl

-- invokespecial of a constructor of A, which B has
pub constructor_above : told (coded (1 ∷ 183 ∷ 0 ∷ 51 ∷ 177 ∷ [])) ≡ construct_at (codes "BadCall") 1
unfolding code_at attributes_at handlers_at body_at number_at run_at items_at element_rest type_rest type_of types_at result_of signature_of is_field_descriptor entry_operand_at parts_at instrs_at targets_fit instrs_of
constructor_above = refl

-- of that of B, and of that of Object
pub constructor : told (coded (1 ∷ 183 ∷ 0 ∷ 54 ∷ 1 ∷ 183 ∷ 0 ∷ 55 ∷ 177 ∷ [])) ≡ None
unfolding code_at attributes_at handlers_at body_at number_at run_at items_at element_rest type_rest type_of types_at result_of signature_of is_field_descriptor entry_operand_at parts_at instrs_at targets_fit instrs_of
constructor = refl

-- invokevirtual of that of B
pub virtual_constructor : told (coded (1 ∷ 182 ∷ 0 ∷ 54 ∷ 177 ∷ [])) ≡ construct_at (codes "BadCall") 1
unfolding code_at attributes_at handlers_at body_at number_at run_at items_at element_rest type_rest type_of types_at result_of signature_of is_field_descriptor entry_operand_at parts_at instrs_at targets_fit instrs_of
virtual_constructor = refl

-- invokespecial of the method g of B, above A
pub special : told (coded (1 ∷ 183 ∷ 0 ∷ 58 ∷ 177 ∷ [])) ≡ None
unfolding code_at attributes_at handlers_at body_at number_at run_at items_at element_rest type_rest type_of types_at result_of signature_of is_field_descriptor entry_operand_at parts_at instrs_at targets_fit instrs_of
special = refl

-- and of that of C, which isn't
pub bad_special : told (coded (1 ∷ 183 ∷ 0 ∷ 61 ∷ 177 ∷ [])) ≡ construct_at (codes "BadCall") 1
unfolding code_at attributes_at handlers_at body_at number_at run_at items_at element_rest type_rest type_of types_at result_of signature_of is_field_descriptor entry_operand_at parts_at instrs_at targets_fit instrs_of
bad_special = refl
