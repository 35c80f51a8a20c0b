-- What classes are refused for before a look at their code, and what their names lead to, computed.
use Rattle.std.proofs.Common.{◌≡◌, ℕ, List, [], ◌∷◌, Option, Some, None, Err, refl}
use Rattle.std.specs.Prelude.{pos, codes, map, option_map}
use Rattle.jmodel.specs.declared.class_file.Constant.TheVariants.{Utf8, Class}
use Rattle.jmodel.specs.declared.refusal.Refusal.TheVariants.{DoubledClass, UnknownClass, BadSuper, Circular, ReservedName, Construct}
use Rattle.jmodel.specs.format.ClassFile.{Member, Pool, ClassFile, code_spelling}
use Rattle.jmodel.specs.format.DescriptorReading.{element_rest, type_rest, type_of, types_at, result_of, signature_of, is_field_descriptor}
use Rattle.jmodel.specs.format.Reading.{number_at, run_at, items_at}
use Rattle.jmodel.specs.format.ClassReading.{attributes_at, handlers_at, body_at, code_at}
use Rattle.jmodel.specs.format.InstructionReading.{entry_operand_at, parts_at, instrs_at, targets_fit, instrs_of}
use Rattle.jmodel.specs.format.Mark.{retries_in, all_annotations}
use Rattle.objects.specs.linking.Members.{own_name}
use Rattle.objects.specs.linking.Classes.{Declared}
use Rattle.objects.specs.linking.Resolution.{ancestry, resolved_field, resolved_method}
use Rattle.objects.specs.linking.ClassesFaults.{reserved_class, supers_fault, members_fault}
use Rattle.objects.specs.linking.Linking.{linking, linking_files}

-- ---- classes

abbrev pool : List ℕ → List ℕ → List ℕ → List ℕ → Pool
pool name super first second =
    Class 2 ∷ Utf8 name ∷ Class 4 ∷ Utf8 super ∷ Class 6 ∷ Utf8 first ∷ Class 8 ∷ Utf8 second
    ∷ Utf8 (codes "x") ∷ Utf8 (codes "I") ∷ Utf8 (codes "J") ∷ Utf8 (codes "f") ∷ Utf8 (codes "()V") ∷ Utf8 (codes "<clinit>") ∷ Utf8 (codes "Code") ∷ []

-- with these flags, this name, this superclass, of two names those at these indexes as interfaces, and these members
abbrev whole : ℕ → List ℕ → List ℕ → List ℕ → List ℕ → List ℕ → List Member → List Member → ClassFile
whole flags name super first second interfaces fields methods = record {
  minor = 0;
  major = 49;
  pool = pool name super first second;
  flags = flags;
  this_class = 1;
  super_class = 3;
  interfaces = interfaces;
  fields = fields;
  methods = methods;
  attributes = [];
}

abbrev object : List ℕ
object = codes "java/lang/Object"

-- a class under another
abbrev under : List ℕ → List ℕ → ClassFile
under name super = whole 0x21 name super [] [] [] [] []

-- a class that lists interfaces, and an interface that does
abbrev with_one : List ℕ → List ℕ → ClassFile
with_one name first = whole 0x21 name object first [] (5 ∷ []) [] []

abbrev interface : List ℕ → ClassFile
interface name = whole 0x600 name object [] [] [] [] []

abbrev interface_with : List ℕ → List ℕ → ClassFile
interface_with name first = whole 0x600 name object first [] (5 ∷ []) [] []

abbrev final : List ℕ → ClassFile
final name = whole 0x31 name object [] [] [] [] []

-- ---- superclasses

pub under_library : supers_fault (under (codes "A") (codes "java/lang/Exception") ∷ []) ≡ None
under_library = refl

pub under_string : supers_fault (under (codes "A") (codes "java/lang/String") ∷ []) ≡ Some (BadSuper (codes "A") (codes "java/lang/String"))
under_string = refl

pub under_final : supers_fault (under (codes "A") (codes "B") ∷ final (codes "B") ∷ []) ≡ Some (BadSuper (codes "A") (codes "B"))
under_final = refl

pub under_interface : supers_fault (under (codes "A") (codes "B") ∷ interface (codes "B") ∷ []) ≡ Some (BadSuper (codes "A") (codes "B"))
under_interface = refl

-- an interface under Exception
pub interface_under : supers_fault (whole 0x600 (codes "A") (codes "java/lang/Exception") [] [] [] [] [] ∷ []) ≡ Some (BadSuper (codes "A") (codes "java/lang/Exception"))
interface_under = refl

pub under_none : supers_fault (under (codes "A") (codes "Gone") ∷ []) ≡ Some (UnknownClass (codes "Gone"))
under_none = refl

pub under_array : supers_fault (under (codes "A") (codes "[I") ∷ []) ≡ Some (UnknownClass (codes "[I"))
under_array = refl

-- ---- interfaces

pub lists_class : supers_fault (with_one (codes "A") (codes "B") ∷ final (codes "B") ∷ []) ≡ Some (BadSuper (codes "A") (codes "B"))
lists_class = refl

pub lists_library : supers_fault (with_one (codes "A") object ∷ []) ≡ Some (BadSuper (codes "A") object)
lists_library = refl

pub lists_array : supers_fault (with_one (codes "A") (codes "[I") ∷ []) ≡ Some (BadSuper (codes "A") (codes "[I"))
lists_array = refl

pub lists_other : supers_fault (with_one (codes "A") (codes "java/lang/Runnable") ∷ []) ≡ None
lists_other = refl

-- of one class its superclass comes first, whatever it lists
pub superclass_first : supers_fault (whole 0x21 (codes "A") (codes "Gone") (codes "[I") [] (5 ∷ []) [] [] ∷ []) ≡ Some (UnknownClass (codes "Gone"))
superclass_first = refl

-- ---- circles

-- B and C stand above each other; A stands under them, and not above itself
pub circle : supers_fault (under (codes "A") (codes "B") ∷ under (codes "B") (codes "C") ∷ under (codes "C") (codes "B") ∷ []) ≡ Some (Circular (codes "B"))
circle = refl

pub interface_circle : supers_fault (interface_with (codes "I") (codes "J") ∷ interface_with (codes "J") (codes "I") ∷ []) ≡ Some (Circular (codes "I"))
interface_circle = refl

-- what may not be above a class comes before all circles
pub circle_last : supers_fault (under (codes "A") (codes "A") ∷ under (codes "B") (codes "Gone") ∷ []) ≡ Some (UnknownClass (codes "Gone"))
circle_last = refl

-- ---- a diamond: D stands under A, and both list I, which lists K; each declares x and f

abbrev field_x : Member
field_x = record { flags = 9; name = 9; descriptor = 10; attributes = [] }

abbrev method_f : Member
method_f = record { flags = 0x401; name = 12; descriptor = 13; attributes = [] }

abbrev top : ClassFile
top = whole 0x600 (codes "K") object [] [] [] (field_x ∷ []) (method_f ∷ [])

abbrev middle : ClassFile
middle = whole 0x600 (codes "I") object (codes "K") [] (5 ∷ []) [] []

abbrev above : ClassFile
above = whole 0x421 (codes "A") object (codes "I") [] (5 ∷ []) (field_x ∷ []) (method_f ∷ [])

abbrev below : ClassFile
below = whole 0x421 (codes "D") (codes "A") (codes "I") [] (5 ∷ []) [] []

abbrev diamond : List ClassFile
diamond = above ∷ below ∷ middle ∷ top ∷ []

abbrev home : Option Declared → Option (List ℕ)
home k = option_map (λ (k : Declared). own_name k.class) k

pub stands : supers_fault diamond ≡ None
stands = refl

pub upward : map own_name (ancestry diamond (codes "D")) ≡ codes "D" ∷ codes "I" ∷ codes "K" ∷ codes "A" ∷ codes "I" ∷ codes "K" ∷ []
upward = refl

-- the field of the interface comes before that of the superclass, and the method of the superclass before that of the interface
pub field_home : home (resolved_field diamond (record { class = codes "D"; name = codes "x"; descriptor = codes "I" })) ≡ Some (codes "K")
field_home = refl

pub method_home : home (resolved_method diamond (record { class = codes "D"; name = codes "f"; descriptor = codes "()V" })) ≡ Some (codes "A")
method_home = refl

pub no_home : home (resolved_method diamond (record { class = codes "D"; name = codes "x"; descriptor = codes "()V" })) ≡ None
no_home = refl

-- ---- members

abbrev initialiser : List ℕ → Member
initialiser code = record { flags = 8; name = 14; descriptor = 13; attributes = record { name = 15; bytes = code_spelling (record { max_stack = 1; max_locals = 0; code = code; handlers = []; attributes = [] }) } ∷ [] }

abbrev twins : List Member
twins = field_x ∷ record { flags = 1; name = 9; descriptor = 11; attributes = [] } ∷ []

pub interface_init : members_fault (whole 0x600 (codes "A") object [] [] [] twins (initialiser (177 ∷ []) ∷ []) ∷ []) ≡ Some (Construct (codes "InterfaceInit") (codes "A") (pos 0))
interface_init = refl

pub twin_field : members_fault (whole 0x21 (codes "A") object [] [] [] twins (initialiser (177 ∷ []) ∷ []) ∷ []) ≡ Some (Construct (codes "TwinField") (codes "A") (pos 0))
twin_field = refl

-- ---- names that rewriting keeps for itself

pub reserved : reserved_class (under (codes "A") object ∷ under (codes "B") (codes "x__Getter$y") ∷ []) ≡ Some (ReservedName (codes "B"))
reserved = refl

-- they come before what stands above a class, and after two classes of one name
pub reserved_first : linking_files (under (codes "A") (codes "Gone") ∷ under (codes "B") (codes "x__Getter$y") ∷ []) ≡ Err (ReservedName (codes "B"))
reserved_first = refl

pub doubled_first : linking_files (under (codes "B") (codes "x__Getter$y") ∷ final (codes "B") ∷ []) ≡ Err (DoubledClass (codes "B"))
doubled_first = refl

-- ---- all together

-- a class with a static initialiser
abbrev started : List ℕ → ClassFile
started code = whole 0x21 (codes "A") object (codes "java/lang/Runnable") [] (5 ∷ []) [] (initialiser code ∷ [])

-- aconst_null; monitorenter; return
pub construct_first : linking (started (1 ∷ 194 ∷ 177 ∷ []) ∷ []) ≡ Err (Construct (codes "Monitor") (codes "A.<clinit>()V") (pos 1))
unfolding code_at attributes_at handlers_at body_at number_at run_at items_at element_rest type_rest type_of types_at result_of signature_of is_field_descriptor entry_operand_at parts_at instrs_at targets_fit instrs_of retries_in all_annotations
construct_first = refl
