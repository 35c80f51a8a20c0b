-- Reading a constant pool: its entries from the front, then what they name.
use Rattle.std.specs.Prelude.{ℕ, ◌+◌, ◌-◌, pos, List, [], ◌∷◌, Option, Some, None, Result, Ok, Err, Bool, true, false, not, ◌||◌, ◌&&◌, ◌==◌, nat_lt, if◌then◌else◌, is_some, position, get_or}
use Rattle.std.specs.Int.{w32, w64, cast_signed}
use Rattle.jmodel.specs.declared.class_file.Constant.{Constant}
use Rattle.jmodel.specs.declared.class_file.Constant.TheVariants.{Utf8, Integer, Float, Long, Double, Class, Text, Field, Method, InterfaceMethod, NameAndType, Second}
use Rattle.jmodel.specs.declared.refusal.Refusal.{Refusal}
use Rattle.jmodel.specs.declared.refusal.Refusal.TheVariants.{BadTag, BadIndex, WrongKind, BadUtf8, BadDescriptor}
use Rattle.jmodel.specs.format.ClassFile.{Pool}
use Rattle.jmodel.specs.format.Pool.{entry, utf8, pair}
use Rattle.jmodel.specs.format.ClassRules.{is_wide, is_second}
use Rattle.jmodel.specs.format.Descriptor.{is_array_name}
use Rattle.jmodel.specs.format.DescriptorReading.{is_field_descriptor, is_method_descriptor}
use Rattle.jmodel.specs.format.Reading.{◌>>=◌, place, run_at, u2_at, u4_at, u8_at, items_at}

-- ---- entries

-- what may not stand in a text
abbrev pub is_bad_byte : ℕ → Bool
is_bad_byte b = (b == 0) || nat_lt 239 b

-- a text that stands at start, with its first bad byte
abbrev pub text_of : ℕ → List ℕ × ℕ → Option ℕ → Result (Constant × ℕ) Refusal
text_of start run None = Ok (Utf8 run.0, run.1)
text_of start run (Some i) = Err (BadUtf8 (place (start + i)))

unfoldable pub text_at : List ℕ → ℕ → Result (Constant × ℕ) Refusal
text_at bytes at = do
  n ← u2_at bytes at
  run ← run_at bytes n.1 n.0
  text_of n.1 run (position is_bad_byte run.0)

-- tags 3 and 4
unfoldable pub word_at : ℕ → List ℕ → ℕ → Result (Constant × ℕ) Refusal
word_at tag bytes at = do
  n ← u4_at bytes at
  Ok (if tag == 3 then Integer (cast_signed w32 n.0) else Float n.0, n.1)

-- tags 5 and 6
unfoldable pub wide_at : ℕ → List ℕ → ℕ → Result (Constant × ℕ) Refusal
wide_at tag bytes at = do
  n ← u8_at bytes at
  Ok (if tag == 5 then Long (cast_signed w64 n.0) else Double n.0, n.1)

-- tags 7 and 8
unfoldable pub index_at : ℕ → List ℕ → ℕ → Result (Constant × ℕ) Refusal
index_at tag bytes at = do
  i ← u2_at bytes at
  Ok (if tag == 7 then Class i.0 else Text i.0, i.1)

abbrev pub of_pair : ℕ → ℕ → ℕ → Constant
of_pair tag a b = if tag == 9 then Field a b else if tag == 10 then Method a b else if tag == 11 then InterfaceMethod a b else NameAndType a b

-- tags 9 to 12
unfoldable pub pair_at : ℕ → List ℕ → ℕ → Result (Constant × ℕ) Refusal
pair_at tag bytes at = do
  a ← u2_at bytes at
  b ← u2_at bytes a.1
  Ok (of_pair tag a.0 b.0, b.1)

-- An entry behind its tag, which stands at start. A wide one needs a further index.
unfoldable pub tagged_at : ℕ → ℕ → ℕ → List ℕ → ℕ → Result (Constant × ℕ) Refusal
tagged_at start left tag bytes at =
    if tag == 1 then text_at bytes at
    else if (tag == 3) || (tag == 4) then word_at tag bytes at
    else if ((tag == 5) || (tag == 6)) && nat_lt 0 left then wide_at tag bytes at
    else if (tag == 7) || (tag == 8) then index_at tag bytes at
    else if nat_lt 8 tag && nat_lt tag 13 then pair_at tag bytes at
    else Err (BadTag (place start))

-- An entry, behind which as many indexes are left
unfoldable pub constant_at : List ℕ → ℕ → ℕ → Result (Constant × ℕ) Refusal
constant_at bytes left at = do
  tag ← run_at bytes at 1
  tagged_at at left (get_or tag.0 0 0) bytes tag.1

-- where reading stands: how many indexes are left, and whether the next is the second place of an entry
pub record Scan : Type 0 where
  pub left : ℕ
  pub due : Bool
  pub at : ℕ

abbrev pub after : ℕ → Constant × ℕ → Constant × Scan
after left c = (c.0, record { left = left; due = is_wide c.0; at = c.1 })

abbrev pub entry_if : Bool → List ℕ → ℕ → ℕ → Result (Constant × ℕ) Refusal
entry_if true bytes left at = Ok (Second, at)
entry_if false bytes left at = constant_at bytes left at

unfoldable pub scan_at : List ℕ → Scan → Result (Constant × Scan) Refusal
scan_at bytes s = do
  c ← entry_if s.due bytes (s.left - 1) s.at
  Ok (after (s.left - 1) c)

unfoldable pub entries_at : List ℕ → ℕ → ℕ → Result (List Constant × ℕ) Refusal
entries_at bytes last at = do
  entries ← items_at (scan_at bytes) last (record { left = last; due = false; at = at })
  Ok (entries.0, entries.1.at)

-- ---- what is named

abbrev pub entry_of : ℕ → Option Constant → Result Constant Refusal
entry_of i None = Err (BadIndex (pos i))
entry_of i (Some c) = if is_second c then Err (BadIndex (pos i)) else Ok c

-- an entry that isn't a second place
abbrev pub entry_at : Pool → ℕ → Result Constant Refusal
entry_at pool i = entry_of i (entry pool i)

abbrev pub text_in : ℕ → Constant → Result (List ℕ) Refusal
text_in i (Utf8 bytes) = Ok bytes
text_in i c = Err (WrongKind (pos i))

-- the bytes of a Utf8
unfoldable pub utf8_at : Pool → ℕ → Result (List ℕ) Refusal
utf8_at pool i = entry_at pool i >>= text_in i

abbrev pub name_in : ℕ → Constant → Result ℕ Refusal
name_in i (Class name) = Ok name
name_in i c = Err (WrongKind (pos i))

-- the index of a Class's name
unfoldable pub class_at : Pool → ℕ → Result ℕ Refusal
class_at pool i = entry_at pool i >>= name_in i

abbrev pub pair_in : ℕ → Constant → Result (ℕ × ℕ) Refusal
pair_in i (NameAndType name descriptor) = Ok (name, descriptor)
pair_in i c = Err (WrongKind (pos i))

-- the indexes of a NameAndType
unfoldable pub name_and_type_at : Pool → ℕ → Result (ℕ × ℕ) Refusal
name_and_type_at pool i = entry_at pool i >>= pair_in i

-- ---- references and descriptors

abbrev pub done : Result (Unit {0}) Refusal
done = Ok tt

-- whether an index names a text that passes
abbrev pub passes : (List ℕ → Bool) → Option (List ℕ) → Bool
passes p None = false
passes p (Some text) = p text

-- a descriptor, by its index, for its use
abbrev pub want_descriptor : Bool → ℕ → Result (Unit {0}) Refusal
want_descriptor fits i = if fits then done else Err (BadDescriptor (pos i))

abbrev pub is_text : Pool → ℕ → Bool
is_text pool i = is_some (utf8 pool i)

-- a class, and a NameAndType for a use; a NameAndType whose own indexes are wrong is judged where it stands
unfoldable pub member_fits : Pool → (List ℕ → Bool) → ℕ → ℕ → Result (Unit {0}) Refusal
member_fits pool p class pair = do
  name ← class_at pool class
  both ← name_and_type_at pool pair
  want_descriptor (not (is_text pool both.0 && is_text pool both.1) || passes p (utf8 pool both.1)) both.1

-- a class's name: one that begins as an array's is an array's
unfoldable pub name_fits : Pool → ℕ → Result (Unit {0}) Refusal
name_fits pool name = do
  text ← utf8_at pool name
  want_descriptor (not (is_array_name text) || is_field_descriptor text) name

unfoldable pub pair_fits : Pool → ℕ → ℕ → Result (Unit {0}) Refusal
pair_fits pool name descriptor = do
  first ← utf8_at pool name
  second ← utf8_at pool descriptor
  want_descriptor (is_field_descriptor second || is_method_descriptor second) descriptor

unfoldable pub text_fits : Pool → ℕ → Result (Unit {0}) Refusal
text_fits pool text = do
  found ← utf8_at pool text
  done

abbrev pub constant_fits : Pool → Constant → Result (Unit {0}) Refusal
constant_fits pool (Class name) = name_fits pool name
constant_fits pool (Text text) = text_fits pool text
constant_fits pool (Field class p) = member_fits pool is_field_descriptor class p
constant_fits pool (Method class p) = member_fits pool is_method_descriptor class p
constant_fits pool (InterfaceMethod class p) = member_fits pool is_method_descriptor class p
constant_fits pool (NameAndType name descriptor) = pair_fits pool name descriptor
constant_fits pool c = done

unfoldable pub all_fit : Pool → List Constant → Result (Unit {0}) Refusal
all_fit pool [] = done
all_fit pool (c ∷ cs) = do
  first ← constant_fits pool c
  all_fit pool cs

-- The pool, and the place after it. A count of 0 is an empty pool, as 1 is.
unfoldable pub pool_at : List ℕ → ℕ → Result (Pool × ℕ) Refusal
pool_at bytes at = do
  count ← u2_at bytes at
  entries ← entries_at bytes (count.0 - 1) count.1
  fit ← all_fit entries.0 entries.0
  Ok entries
