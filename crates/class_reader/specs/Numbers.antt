-- Numbers of texts and of members: equal texts have equal numbers.
use Rattle.std.specs.Prelude.{ℕ, zero, suc, ◌+◌, ◌*◌, List, Bool, false, map, slice_index, bytes_eq, IsSome, Option, Some, None, unwrap_or, if◌then◌else◌}
use Rattle.std.specs.BTreeMap.{BTreeMap, get_by}
use Rattle.std.specs.Cmp.Lexicographic.{slice_cmp}
use Rattle.std.specs.Ordering.{nat_cmp}
use Rattle.std.specs.Borrow.{Bor}
use Rattle.std.specs.List.{position_or_len, AllByRecursion}
use Rattle.jmodel.specs.declared.class_file.Constant.{Constant}
use Rattle.jmodel.specs.declared.class_file.Constant.TheVariants.{Utf8}
use Rattle.jmodel.specs.format.ClassFile.{Member}
use Rattle.jmodel.specs.format.Pool.{utf8}

-- whether an entry has this text
abbrev pub is_text : List ℕ → Constant → Bool
is_text text (Utf8 t) = bytes_eq t text
is_text text c = false

abbrev pub number_in : List Constant → Constant → ℕ
number_in pool (Utf8 text) = position_or_len (is_text text) pool
number_in pool c = 0

abbrev pub numbers_of : List Constant → List ℕ
numbers_of pool = map (number_in pool) pool

-- the number that a map has for a text
abbrev pub number_known : BTreeMap (Bor (List ℕ)) ℕ → List ℕ → Option ℕ
number_known known text = get_by (λ k. slice_cmp nat_cmp text k.now) known

-- the number of an entry: that of its text, or the next
abbrev pub number_for : (List ℕ → Option ℕ) → Constant → ℕ → ℕ
number_for known (Utf8 text) next = unwrap_or (known text) next
number_for known c next = 0

-- what is known of a text once an entry has a number
abbrev pub or_at : Option ℕ → Bool → ℕ → Option ℕ
or_at (Some n) b k = Some n
or_at None b k = if b then Some k else None

-- the number of the text of an index
abbrev pub number_at : List ℕ → ℕ → ℕ
number_at numbers zero = 0
number_at numbers (suc i) = slice_index numbers i

-- the number of a member's name and descriptor
abbrev pub key_of : List ℕ → Member → ℕ
key_of numbers m = number_at numbers m.name * 65536 + number_at numbers m.descriptor

abbrev pub IsNamed : List Constant → Member → Type 0
IsNamed pool m = IsSome (utf8 pool m.name) × IsSome (utf8 pool m.descriptor)

abbrev pub AreNamed : List Constant → List Member → Type 0
AreNamed pool ms = AllByRecursion (IsNamed pool) ms
