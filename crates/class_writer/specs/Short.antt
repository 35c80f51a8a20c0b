-- The spelling of an entry, in two parts.
use Rattle.std.specs.Prelude.{ℕ, ◌<◌, ◌^◌, List, [], ◌++◌, length}
use Rattle.std.specs.List.{AllByRecursion}
use Rattle.std.specs.Int.{w32, w64, cast_unsigned}
use Rattle.jmodel.specs.declared.class_file.Constant.{Constant}
use Rattle.jmodel.specs.declared.class_file.Constant.TheVariants.{Utf8, Integer, Float, Long, Double, Class, Text, Field, Method, InterfaceMethod, NameAndType, Second}
use Rattle.jmodel.specs.format.ClassFile.{Attribute, Member, ClassFile, u2, u4, u8, magic, constants, indexes, members, attributes}

-- a text has a length of two bytes
abbrev pub IsShort : Constant → Type 0
IsShort (Utf8 text) = length text < 2 ^ 16
IsShort c = Unit {0}

-- an attribute has a length of four bytes
abbrev pub HasLength : Attribute → Type 0
HasLength a = length a.bytes < 2 ^ 32

abbrev pub tag_in : Constant → ℕ
tag_in (Utf8 text) = 1
tag_in (Integer n) = 3
tag_in (Float bits) = 4
tag_in (Long n) = 5
tag_in (Double bits) = 6
tag_in (Class n) = 7
tag_in (Text n) = 8
tag_in (Field a b) = 9
tag_in (Method a b) = 10
tag_in (InterfaceMethod a b) = 11
tag_in (NameAndType a b) = 12
tag_in Second = 0

abbrev pub content_of : Constant → List ℕ
content_of (Utf8 text) = u2 (length text) ++ text
content_of (Integer n) = u4 (cast_unsigned w32 n)
content_of (Float bits) = u4 bits
content_of (Long n) = u8 (cast_unsigned w64 n)
content_of (Double bits) = u8 bits
content_of (Class n) = u2 n
content_of (Text n) = u2 n
content_of (Field a b) = u2 a ++ u2 b
content_of (Method a b) = u2 a ++ u2 b
content_of (InterfaceMethod a b) = u2 a ++ u2 b
content_of (NameAndType a b) = u2 a ++ u2 b
content_of Second = []

-- attributes behind a count of two bytes
abbrev pub AreShort : List Attribute → Type 0
AreShort xs = (length xs < 2 ^ 16) × AllByRecursion HasLength xs

-- members likewise
abbrev pub AreMembersShort : List Member → Type 0
AreMembersShort ms = (length ms < 2 ^ 16) × AllByRecursion (λ m. AreShort m.attributes) ms

-- a class in three parts
abbrev pub front : ClassFile → List ℕ
front c = magic ++ u2 c.minor ++ u2 c.major ++ constants c.pool

abbrev pub names : ClassFile → List ℕ
names c = u2 c.flags ++ u2 c.this_class ++ u2 c.super_class ++ indexes c.interfaces

abbrev pub parts : ClassFile → List ℕ
parts c = members c.fields ++ members c.methods ++ attributes c.attributes
