-- What the classes of a folder, in the byte order of their names, hold: types of objects and their numbers, fields and their places, texts, and memory
-- before the first call. Where things lie and how they are numbered is this project's own.
use Rattle.std.specs.Prelude.{ℕ, ℤ, suc, pos, ◌+◌, List, [], ◌∷◌, ◌++◌, length, map, filter, find, position, drop, reverse, Option, Some, None, Result, Ok, Err, Bool, true, false, not, ◌==◌, ◌&&◌, ◌||◌, nat_le, nat_lt, nat_eq, if◌then◌else◌, codes, bytes_eq, option_map, option_and_then, unwrap_or}
use Rattle.std.specs.List.{flat_map}
use Rattle.jmodel.specs.declared.value.Value.{Value}
use Rattle.jmodel.specs.declared.value.Value.TheVariants as value
use Rattle.jmodel.specs.declared.class_file.FieldType.{FieldType}
use Rattle.jmodel.specs.declared.class_file.FieldType.TheVariants as types
use Rattle.jmodel.specs.declared.instruction.Instr.{Instr}
use Rattle.jmodel.specs.declared.refusal.Refusal.{Refusal}
use Rattle.jmodel.specs.format.ClassFile.{Member, Pool, ClassFile}
use Rattle.jmodel.specs.format.Pool.{utf8, class_name, string_in, text_or_none}
use Rattle.jmodel.specs.format.Constants.{constant_of, int_value, long_value}
use Rattle.jmodel.specs.format.DescriptorReading.{type_of}
use Rattle.objects.specs.linking.Members.{is_static, statics, own_name}
use Rattle.objects.specs.linking.StaticBases.{has_base, base_of, bases_end, base_type}
use Rattle.objects.specs.linking.Superclasses.{class_named, super_name, lineage}
use Rattle.objects.specs.linking.Classes.{Declared as DeclaredMember, methods_in, is_before}
use Rattle.objects.specs.linking.Taken.{is_taken, index_of}
use Rattle.objects.specs.linking.Code.{Coded, decoded}
use Rattle.objects.specs.declared.op.WordType.{WordType}
use Rattle.objects.specs.declared.op.WordType.TheVariants as word
use Rattle.objects.specs.semantics.WordTypes.{narrowed}
use Rattle.objects.specs.semantics.Value.{word_of}
use Rattle.objects.specs.semantics.Program.{Declared, Words, Elements, Row, Field}
use Rattle.objects.specs.linking.LibraryClasses.{library_rows}
use Rattle.objects.specs.linking.LibraryMethods.{is_library}
use Rattle.objects.specs.typing.TypeOrder.{object_class, string_class, context_class, is_array, is_class_name, without_last, named_by, descriptor_of}
use Rattle.objects.specs.semantics.State.{Object, State, header}
use Rattle.objects.specs.linking.Resolution.{is_interface, holds_of, interface_names, ancestry}
use Rattle.objects.specs.linking.Constructs.{is_floating}

-- ---- types of words

-- A class's name as typing reads it: an interface, and a class that neither the folder nor the library has, is Object. The context of rewritten code
-- has its own name.
abbrev pub class_read : List ClassFile → List ℕ → List ℕ
class_read cs n = if is_library n || (bytes_eq n context_class || holds_of (λ c. not (is_interface c)) (class_named cs n)) then n else object_class

-- so inside the descriptor of an array, 91, or of a class, 76
abbrev pub descriptor_read : List ClassFile → List ℕ → List ℕ
descriptor_read cs [] = []
descriptor_read cs (c ∷ d) =
    if c == 91 then c ∷ descriptor_read cs d
    else (if c == 76 then codes "L" ++ class_read cs (without_last d) ++ codes ";" else c ∷ d)

abbrev pub name_read : List ClassFile → List ℕ → List ℕ
name_read cs n = if is_array n then descriptor_read cs n else class_read cs n

-- The word of a field. No code that is rewritten touches a float or a double, whose word stays 0.
abbrev pub word_kind : FieldType → WordType
word_kind types.Boolean = word.Boolean
word_kind types.Byte = word.Byte
word_kind types.Char = word.Char
word_kind types.Short = word.Short
word_kind types.Int = word.Int
word_kind types.Long = word.Long
word_kind types.Float = word.Int
word_kind types.Double = word.Int
word_kind (types.Reference n) = word.Reference

abbrev pub referred : List ClassFile → FieldType → List ℕ
referred cs (types.Reference n) = name_read cs n
referred cs t = []

-- the type of a word, by the type that a descriptor says
abbrev pub declared_as : List ClassFile → FieldType → Declared
declared_as cs t = record { word = word_kind t; class = referred cs t }

abbrev pub field_type : Pool → Member → FieldType
field_type pool m = type_of (text_or_none (utf8 pool m.descriptor))

-- ---- what objects hold

-- the words of an object's own class, in the order of its file
abbrev pub own_words : List ClassFile → ClassFile → List Declared
own_words cs c = map (λ m. declared_as cs (field_type c.pool m)) (filter (λ m. not (is_static m)) c.fields)

-- the words of objects of a class, those of the highest class first
abbrev pub words_upward : List ClassFile → List ℕ → List Declared
words_upward cs name = flat_map (own_words cs) (reverse (lineage cs name))

abbrev pub static_words : List ClassFile → ClassFile → List Declared
static_words cs c = map (λ m. declared_as cs (field_type c.pool m)) (statics c)

-- ---- what objects are instances of (JVM Specification, Java SE 7, section 6.5, checkcast)

abbrev pub lineage_of : Option Row → List (List ℕ)
lineage_of None = []
lineage_of (Some r) = r.lineage

-- a class of the library and those above it
abbrev pub library_lineage : List ℕ → List (List ℕ)
library_lineage n = lineage_of (find (λ (r : Row). bytes_eq r.name n) library_rows)

-- the name right above the last of some classes
abbrev pub above_last : List ℕ → List ClassFile → List ℕ
above_last n [] = n
above_last n (c ∷ cs) = above_last (super_name c) cs

-- the names of a class and those above it, the nearest first
abbrev pub names_upward : List ClassFile → List ℕ → List (List ℕ)
names_upward cs n = map own_name (lineage cs n) ++ library_lineage (above_last n (lineage cs n))

-- texts in byte order, each once
abbrev pub with_text : List ℕ → List (List ℕ) → List (List ℕ)
with_text t [] = t ∷ []
with_text t (u ∷ us) = if bytes_eq t u then u ∷ us else (if is_before u t then u ∷ with_text t us else t ∷ u ∷ us)

abbrev pub in_text_order : List (List ℕ) → List (List ℕ)
in_text_order [] = []
in_text_order (t ∷ ts) = with_text t (in_text_order ts)

-- A class, those above it, and the interfaces that these list, directly or through interfaces. An empty name is none.
abbrev pub class_instances : List ClassFile → List ℕ → List (List ℕ)
class_instances cs n = names_upward cs n ++ in_text_order (filter is_class_name (flat_map interface_names (ancestry cs n)))

-- Descriptors: of the types of which an element of a descriptor is an instance. An array is one of Object, 91; a class, 76, has its own; other elements are
-- the same.
abbrev pub element_instances : List ClassFile → List ℕ → List (List ℕ)
element_instances cs [] = []
element_instances cs (c ∷ d) =
    if c == 91 then descriptor_of object_class ∷ map (λ (e : List ℕ). 91 ∷ e) (element_instances cs d)
    else (if c == 76 then map descriptor_of (class_instances cs (without_last d)) else (c ∷ d) ∷ [])

-- ---- types, in the order of their numbers

-- a row whose type no code names: that of an interface, of which there is no object, or of a class's static fields
abbrev pub nameless : List Declared → Row
nameless words = record { name = []; read = []; holds = Words words; lineage = []; instance_of = [] }

abbrev pub class_row : List ClassFile → ClassFile → Row
class_row cs c =
    if is_interface c then nameless []
    else record {
      name = own_name c;
      read = own_name c;
      holds = Words (words_upward cs (own_name c));
      lineage = names_upward cs (own_name c);
      instance_of = class_instances cs (own_name c);
    }

abbrev pub base_rows : List ClassFile → List Row
base_rows cs = map (λ c. nameless (static_words cs c)) (filter has_base cs)

-- an array type, by its descriptor
abbrev pub array_row : List ClassFile → List ℕ → Row
array_row cs n = record {
  name = n;
  read = descriptor_read cs n;
  holds = Elements (declared_as cs (type_of (drop 1 n))) (named_by (drop 1 n));
  lineage = [];
  instance_of = map named_by (element_instances cs n);
}

abbrev pub primitive_arrays : List (List ℕ)
primitive_arrays = codes "[B" ∷ codes "[C" ∷ codes "[I" ∷ codes "[J" ∷ codes "[S" ∷ codes "[Z" ∷ []

-- the array type that anewarray, 189, makes of a class's name
abbrev pub array_over : List ℕ → List ℕ
array_over n = 91 ∷ descriptor_of n

abbrev pub some_array : Option (List ℕ) → List (List ℕ)
some_array None = []
some_array (Some n) = array_over n ∷ []

abbrev pub made_by : Pool → Instr → List (List ℕ)
made_by pool i = if i.op == 189 then some_array (option_and_then (class_name pool) (index_of i.operands)) else []

abbrev pub made_in : Pool → Result Coded Refusal → List (List ℕ)
made_in pool (Ok k) = flat_map (made_by pool) k.instrs
made_in pool (Err r) = []

-- the array types that taken methods make by anewarray
abbrev pub made_arrays : List ClassFile → List (List ℕ)
made_arrays cs = in_text_order (flat_map (λ (k : DeclaredMember). made_in k.class.pool (decoded k.class k.member)) (filter (is_taken cs) (methods_in cs)))

abbrev pub rows : List ClassFile → List Row
rows cs = library_rows ++ map (class_row cs) cs ++ base_rows cs ++ map (array_row cs) primitive_arrays ++ map (array_row cs) (made_arrays cs)

-- the number of the type of a name
abbrev pub type_number : List Row → List ℕ → Option ℕ
type_number rs n = option_map suc (position (λ (r : Row). bytes_eq r.name n) rs)

-- ---- fields

abbrev pub if_not : {A : Type 0} → Bool → A → List A → List A
if_not true x xs = xs
if_not false x xs = x ∷ xs

-- A field of the n-th class: a static one with its place among the static fields of its class, another with that among the words of its objects.
abbrev pub field_record : List ClassFile → ℕ → ClassFile → Member → ℕ → Field
field_record cs n c m index = record {
  class = own_name c;
  name = text_or_none (utf8 c.pool m.name);
  descriptor = text_or_none (utf8 c.pool m.descriptor);
  base = if is_static m then Some (base_of cs n) else None;
  index = index;
  declared = declared_as cs (field_type c.pool m);
}

-- those of the n-th class that no float or double is, behind so many static ones, and so many words of objects
abbrev pub fields_behind : List ClassFile → ℕ → ClassFile → (statics words : ℕ) → List Member → List Field
fields_behind cs n c s w [] = []
fields_behind cs n c s w (m ∷ ms) =
    if is_static m then if_not (is_floating (field_type c.pool m)) (field_record cs n c m s) (fields_behind cs n c (suc s) w ms)
    else if_not (is_floating (field_type c.pool m)) (field_record cs n c m w) (fields_behind cs n c s (suc w) ms)

-- an interface has none that code may use
abbrev pub class_fields : List ClassFile → ℕ → ClassFile → List Field
class_fields cs n c = if is_interface c then [] else fields_behind cs n c 0 (length (words_upward cs (super_name c))) c.fields

abbrev pub fields_from : List ClassFile → ℕ → List ClassFile → List Field
fields_from cs n [] = []
fields_from cs n (c ∷ ds) = class_fields cs n c ++ fields_from cs (suc n) ds

-- the fields that code may use, class by class in the order of their files
abbrev pub fields_of : List ClassFile → List Field
fields_of cs = fields_from cs 0 cs

-- ---- texts

abbrev pub some_text : Option (List ℕ) → List (List ℕ)
some_text None = []
some_text (Some t) = t ∷ []

-- the texts of all String entries of the folder
abbrev pub texts_of : List ClassFile → List (List ℕ)
texts_of cs = in_text_order (flat_map (λ (c : ClassFile). flat_map (λ k. some_text (string_in c.pool k)) c.pool) cs)

-- They lie behind the static bases, each of one word.
abbrev pub places_from : ℕ → List (List ℕ) → List ℕ
places_from a [] = []
places_from a (t ∷ ts) = a ∷ places_from (suc a) ts

abbrev pub text_places : List ClassFile → List ℕ
text_places cs = places_from (bases_end cs) (texts_of cs)

abbrev pub text_place : List ClassFile → List ℕ → Option ℕ
text_place cs t = option_map (λ n. bases_end cs + n) (position (bytes_eq t) (texts_of cs))

-- the first address behind all of them
abbrev pub fixed_words : List ClassFile → ℕ
fixed_words cs = bases_end cs + length (texts_of cs)

-- ---- memory before the first call

-- the text of a String that a field's constant is
abbrev pub constant_text : Pool → Member → Option (List ℕ)
constant_text pool m = option_and_then (string_in pool) (constant_of pool m)

abbrev pub int_or_zero : Option ℤ → ℤ
int_or_zero n = unwrap_or n (pos 0)

-- what a static field holds at first: its constant, where that is of its type's kind, else 0 or null (JVM Specification, Java SE 7, section 4.7.2)
abbrev pub first_value : List ClassFile → Pool → Member → FieldType → Value
first_value cs pool m (types.Reference n) = value.Ref (if bytes_eq n string_class then unwrap_or (option_and_then (text_place cs) (constant_text pool m)) 0 else 0)
first_value cs pool m types.Long = value.Long (int_or_zero (long_value pool m))
first_value cs pool m types.Float = value.Int (pos 0)
first_value cs pool m types.Double = value.Int (pos 0)
first_value cs pool m t = value.Int (narrowed (word_kind t) (int_or_zero (int_value pool m)))

abbrev pub opening_value : List ClassFile → Pool → Member → Value
opening_value cs pool m = first_value cs pool m (field_type pool m)

-- the object of a class's static fields, where it is the n-th class
abbrev pub statics_object : List ClassFile → ℕ → ClassFile → Object
statics_object cs n c = record { type = base_type cs n; array = false; values = map (opening_value cs c.pool) (statics c) }

-- a string constant, whose class is the second of the library
abbrev pub text_object : Object
text_object = record { type = 2; array = false; values = [] }

abbrev pub base_at : List ClassFile → ℕ → List ClassFile → ℕ → Option Object
base_at cs n [] r = None
base_at cs n (c ∷ ds) r = if has_base c && nat_eq r (base_of cs n) then Some (statics_object cs n c) else base_at cs (suc n) ds r

abbrev pub text_at : List ClassFile → ℕ → Option Object
text_at cs r = if nat_le (bases_end cs) r && nat_lt r (fixed_words cs) then Some text_object else None

abbrev pub either : Option Object → Option Object → Option Object
either (Some o) other = Some o
either None other = other

-- the state before the first call: the static bases and the string constants, in region 0
abbrev pub opening_state : List ClassFile → State
opening_state cs = record {
  objects = λ r. either (base_at cs 0 cs r) (text_at cs r);
  used = λ region. if nat_eq region 0 then fixed_words cs else 0;
}

abbrev pub object_image : Object → List ℕ
object_image o = header o ∷ map word_of o.values

abbrev pub base_images : List ClassFile → ℕ → List ClassFile → List ℕ
base_images cs n [] = []
base_images cs n (c ∷ ds) = (if has_base c then object_image (statics_object cs n c) else []) ++ base_images cs (suc n) ds

-- the words before the first call; addresses 0 and 1 hold 0
abbrev pub opening_words : List ClassFile → List ℕ
opening_words cs = 0 ∷ 0 ∷ base_images cs 0 cs ++ map (λ (t : List ℕ). header text_object) (texts_of cs)
