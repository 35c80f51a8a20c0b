-- The form of a class file (JVM Specification, Java SE 7, sections 4.1 to 4.7): its parts, and its one spelling.
use Rattle.std.specs.Prelude.{ℕ, suc, List, [], ◌∷◌, ◌++◌, length}
use Rattle.std.specs.List.{flat_map}
use Rattle.std.specs.Int.{w16, w32, w64, to_be_bytes, cast_unsigned}
use Rattle.jmodel.specs.declared.class_file.Constant.{Constant}
use Rattle.jmodel.specs.declared.class_file.Constant.TheVariants.{Utf8, Integer, Float, Long, Double, Class, Text, Field, Method, InterfaceMethod, NameAndType, Second}
use Rattle.jmodel.specs.declared.class_file.Handler.{Handler}

-- an attribute: its name's index, and its bytes
pub record Attribute : Type 0 where
  pub name : ℕ
  pub bytes : List ℕ

-- a field or a method, with the indexes of its name and descriptor
pub record Member : Type 0 where
  pub flags : ℕ
  pub name : ℕ
  pub descriptor : ℕ
  pub attributes : List Attribute

-- the entries of a constant pool, from index 1
abbrev pub Pool : Type 0
Pool = List Constant

pub record ClassFile : Type 0 where
  pub minor : ℕ
  pub major : ℕ
  pub pool : Pool
  pub flags : ℕ
  pub this_class : ℕ
  pub super_class : ℕ
  pub interfaces : List ℕ
  pub fields : List Member
  pub methods : List Member
  pub attributes : List Attribute

-- what a Code attribute holds
pub record Code : Type 0 where
  pub max_stack : ℕ
  pub max_locals : ℕ
  pub code : List ℕ
  pub handlers : List Handler
  pub attributes : List Attribute

-- numbers of two, four and eight bytes, the highest first
abbrev pub u2 : ℕ → List ℕ
u2 n = to_be_bytes w16 n

abbrev pub u4 : ℕ → List ℕ
u4 n = to_be_bytes w32 n

abbrev pub u8 : ℕ → List ℕ
u8 n = to_be_bytes w64 n

-- an entry is its tag and its content; the second place of a Long or Double isn't spelled
abbrev pub constant : Constant → List ℕ
constant (Utf8 bytes) = 1 ∷ (u2 (length bytes) ++ bytes)
constant (Integer n) = 3 ∷ u4 (cast_unsigned w32 n)
constant (Float bits) = 4 ∷ u4 bits
constant (Long n) = 5 ∷ u8 (cast_unsigned w64 n)
constant (Double bits) = 6 ∷ u8 bits
constant (Class name) = 7 ∷ u2 name
constant (Text text) = 8 ∷ u2 text
constant (Field class pair) = 9 ∷ (u2 class ++ u2 pair)
constant (Method class pair) = 10 ∷ (u2 class ++ u2 pair)
constant (InterfaceMethod class pair) = 11 ∷ (u2 class ++ u2 pair)
constant (NameAndType name descriptor) = 12 ∷ (u2 name ++ u2 descriptor)
constant Second = []

-- the count is one more than the last index
abbrev pub constants : Pool → List ℕ
constants pool = u2 (suc (length pool)) ++ flat_map constant pool

abbrev pub attribute : Attribute → List ℕ
attribute a = u2 a.name ++ u4 (length a.bytes) ++ a.bytes

abbrev pub attributes : List Attribute → List ℕ
attributes xs = u2 (length xs) ++ flat_map attribute xs

abbrev pub member : Member → List ℕ
member m = u2 m.flags ++ u2 m.name ++ u2 m.descriptor ++ attributes m.attributes

abbrev pub members : List Member → List ℕ
members ms = u2 (length ms) ++ flat_map member ms

abbrev pub indexes : List ℕ → List ℕ
indexes is = u2 (length is) ++ flat_map u2 is

abbrev pub magic : List ℕ
magic = 0xca ∷ 0xfe ∷ 0xba ∷ 0xbe ∷ []

-- the one spelling of a class
abbrev pub spelling : ClassFile → List ℕ
spelling c = magic ++ u2 c.minor ++ u2 c.major ++ constants c.pool ++ u2 c.flags ++ u2 c.this_class ++ u2 c.super_class
    ++ indexes c.interfaces ++ members c.fields ++ members c.methods ++ attributes c.attributes

abbrev pub handler : Handler → List ℕ
handler h = u2 h.start ++ u2 h.end ++ u2 h.handler ++ u2 h.catch_type

-- the one spelling of a Code attribute's bytes
abbrev pub code_spelling : Code → List ℕ
code_spelling k = u2 k.max_stack ++ u2 k.max_locals ++ u4 (length k.code) ++ k.code
    ++ u2 (length k.handlers) ++ flat_map handler k.handlers ++ attributes k.attributes
