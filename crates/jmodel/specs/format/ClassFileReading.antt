-- Reading a class file from the front.
use Rattle.std.specs.Prelude.{ℕ, pos, List, [], ◌∷◌, ◌++◌, length, Option, Some, None, Result, Ok, Err, Bool, true, false, not, ◌||◌, ◌&&◌, ◌==◌, if◌then◌else◌, is_some, codes, bytes_eq}
use Rattle.std.specs.List.{list_any}
use Rattle.jmodel.specs.declared.refusal.Refusal.{Refusal}
use Rattle.jmodel.specs.declared.refusal.Refusal.TheVariants.{WrongKind, BadMagic, BadVersion, Trailing, BadCode, Doubled}
use Rattle.jmodel.specs.format.ClassFile.{Pool, Attribute, Member, ClassFile}
use Rattle.jmodel.specs.format.Pool.{utf8, class_name}
use Rattle.jmodel.specs.format.Descriptor.{is_array_name}
use Rattle.jmodel.specs.format.DescriptorReading.{is_field_descriptor, is_method_descriptor}
use Rattle.jmodel.specs.format.ClassRules.{is_named, has_no_code}
use Rattle.jmodel.specs.format.Reading.{◌>>=◌, place, u2_at, u4_at, items_at}
use Rattle.jmodel.specs.format.PoolReading.{utf8_at, class_at, want_descriptor, done, passes, pool_at}
use Rattle.jmodel.specs.format.ClassReading.{attribute_at, attributes_at, code_of}

-- the place after the magic number
unfoldable pub magic_at : List ℕ → Result ℕ Refusal
magic_at bytes = do
  magic ← u4_at bytes 0
  if magic.0 == 0xcafebabe then Ok magic.1 else Err BadMagic

-- the minor number, of a class of version 49
unfoldable pub version_at : List ℕ → ℕ → Result (ℕ × ℕ) Refusal
version_at bytes at = do
  minor ← u2_at bytes at
  major ← u2_at bytes minor.1
  if major.0 == 49 then Ok (minor.0, major.1) else Err (BadVersion (pos major.0))

-- ---- the class's own names

abbrev pub is_class_name : List ℕ → Bool
is_class_name name = not (length name == 0) && not (list_any (λ c. c == 59) name) && not (is_array_name name)

unfoldable pub class_index_at : Pool → List ℕ → ℕ → Result (ℕ × ℕ) Refusal
class_index_at pool bytes at = do
  i ← u2_at bytes at
  name ← class_at pool i.0
  Ok i

-- a Class that can be this one
unfoldable pub this_at : Pool → List ℕ → ℕ → Result (ℕ × ℕ) Refusal
this_at pool bytes at = do
  i ← class_index_at pool bytes at
  if passes is_class_name (class_name pool i.0) then Ok i else Err (WrongKind (pos i.0))

unfoldable pub interfaces_at : Pool → List ℕ → ℕ → Result (List ℕ × ℕ) Refusal
interfaces_at pool bytes at = do
  count ← u2_at bytes at
  items_at (class_index_at pool bytes) count.0 count.1

pub record Head : Type 0 where
  pub flags : ℕ
  pub this_class : ℕ
  pub super_class : ℕ
  pub interfaces : List ℕ

unfoldable pub head_at : Pool → List ℕ → ℕ → Result (Head × ℕ) Refusal
head_at pool bytes at = do
  flags ← u2_at bytes at
  this_class ← this_at pool bytes flags.1
  super_class ← class_index_at pool bytes this_class.1
  interfaces ← interfaces_at pool bytes super_class.1
  Ok (record { flags = flags.0; this_class = this_class.0; super_class = super_class.0; interfaces = interfaces.0 }, interfaces.1)

-- ---- fields and methods

abbrev pub text_or_nothing : Option (List ℕ) → List ℕ
text_or_nothing None = []
text_or_nothing (Some text) = text

-- a member as refusals name it
abbrev pub full_name : Pool → ℕ → ℕ → List ℕ
full_name pool name descriptor = text_or_nothing (utf8 pool name) ++ text_or_nothing (utf8 pool descriptor)

pub record MemberHead : Type 0 where
  pub flags : ℕ
  pub name : ℕ
  pub descriptor : ℕ

-- a descriptor of the wanted kind, by its index
unfoldable pub descriptor_fits : Pool → (List ℕ → Bool) → ℕ → Result (Unit {0}) Refusal
descriptor_fits pool p i = do
  type ← utf8_at pool i
  want_descriptor (p type) i

unfoldable pub member_head_at : Pool → (List ℕ → Bool) → List ℕ → ℕ → Result (MemberHead × ℕ) Refusal
member_head_at pool p bytes at = do
  flags ← u2_at bytes at
  name ← u2_at bytes flags.1
  text ← utf8_at pool name.0
  descriptor ← u2_at bytes name.1
  fits ← descriptor_fits pool p descriptor.0
  Ok (record { flags = flags.0; name = name.0; descriptor = descriptor.0 }, descriptor.1)

abbrev pub member_of : MemberHead → List Attribute → Member
member_of h attributes = record { flags = h.flags; name = h.name; descriptor = h.descriptor; attributes = attributes }

unfoldable pub field_at : Pool → List ℕ → ℕ → Result (Member × ℕ) Refusal
field_at pool bytes at = do
  head ← member_head_at pool is_field_descriptor bytes at
  attributes ← attributes_at pool bytes head.1
  Ok (member_of head.0 attributes.0, attributes.1)

-- where reading the attributes of a method stands, and whether its Code was found
pub record Found : Type 0 where
  pub found : Bool
  pub at : ℕ

-- A Code attribute is the only one, of a method that has code, and in its form.
abbrev pub judge : Pool → Bool → List ℕ → Bool → Attribute → Result Bool Refusal
judge pool none who found a =
    if is_named pool (codes "Code") a then (if (none || found) || not (is_some (code_of pool a.bytes)) then Err (BadCode who) else Ok true) else Ok found

unfoldable pub method_attribute_at : Pool → Bool → List ℕ → List ℕ → Found → Result (Attribute × Found) Refusal
method_attribute_at pool none who bytes s = do
  a ← attribute_at pool bytes s.at
  found ← judge pool none who s.found a.0
  Ok (a.0, record { found = found; at = a.1 })

unfoldable pub method_attributes_at : Pool → Bool → List ℕ → List ℕ → ℕ → Result (List Attribute × ℕ) Refusal
method_attributes_at pool none who bytes at = do
  count ← u2_at bytes at
  all ← items_at (method_attribute_at pool none who bytes) count.0 (record { found = false; at = count.1 })
  if none || all.1.found then Ok (all.0, all.1.at) else Err (BadCode who)

unfoldable pub method_at : Pool → List ℕ → ℕ → Result (Member × ℕ) Refusal
method_at pool bytes at = do
  head ← member_head_at pool is_method_descriptor bytes at
  attributes ← method_attributes_at pool (has_no_code head.0.flags) (full_name pool head.0.name head.0.descriptor) bytes head.1
  Ok (member_of head.0 attributes.0, attributes.1)

unfoldable pub members_at : (ℕ → Result (Member × ℕ) Refusal) → List ℕ → ℕ → Result (List Member × ℕ) Refusal
members_at read bytes at = do
  count ← u2_at bytes at
  items_at read count.0 count.1

-- ---- the whole

unfoldable pub parts_at : ℕ → Pool → List ℕ → ℕ → Result (ClassFile × ℕ) Refusal
parts_at minor pool bytes at = do
  head ← head_at pool bytes at
  fields ← members_at (field_at pool bytes) bytes head.1
  methods ← members_at (method_at pool bytes) bytes fields.1
  attributes ← attributes_at pool bytes methods.1
  Ok (record { minor = minor; major = 49; pool = pool; flags = head.0.flags; this_class = head.0.this_class; super_class = head.0.super_class; interfaces = head.0.interfaces; fields = fields.0; methods = methods.0; attributes = attributes.0 }, attributes.1)

-- nothing stands behind a place
abbrev pub ended : List ℕ → ℕ → Result (Unit {0}) Refusal
ended bytes at = if at == length bytes then done else Err (Trailing (place at))

-- two members of one name and one descriptor
abbrev pub is_same_member : Pool → Member → Member → Bool
is_same_member pool a b = bytes_eq (text_or_nothing (utf8 pool a.name)) (text_or_nothing (utf8 pool b.name)) && bytes_eq (text_or_nothing (utf8 pool a.descriptor)) (text_or_nothing (utf8 pool b.descriptor))

-- each member is another than those before it
unfoldable pub distinct : Pool → List Member → List Member → Result (Unit {0}) Refusal
distinct pool earlier [] = done
distinct pool earlier (m ∷ ms) = if list_any (λ e. is_same_member pool e m) earlier then Err (Doubled (full_name pool m.name m.descriptor)) else distinct pool (earlier ++ m ∷ []) ms

-- fields first, then methods
unfoldable pub distinct_members : ClassFile → Result (Unit {0}) Refusal
distinct_members c = do
  fields ← distinct c.pool [] c.fields
  distinct c.pool [] c.methods

-- the class that the bytes are, or the first fault
unfoldable pub class_file_of : List ℕ → Result ClassFile Refusal
class_file_of bytes = do
  at ← magic_at bytes
  version ← version_at bytes at
  pool ← pool_at bytes version.1
  class ← parts_at version.0 pool.0 bytes pool.1
  whole ← ended bytes class.1
  members ← distinct_members class.0
  Ok class.0
