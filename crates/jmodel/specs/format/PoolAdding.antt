-- Adding to a constant pool: an entry that means the wanted is used, else new entries are put at the end.
use Rattle.std.specs.Prelude.{◌≡◌, ℕ, suc, ◌+◌, ℤ, List, [], ◌∷◌, ◌++◌, length, Option, Some, None, Result, Ok, Err, Bool, false, ◌&&◌, nat_lt, if◌then◌else◌, position}
use Rattle.std.specs.Ordering.{int_eq}
use Rattle.jmodel.specs.declared.class_file.Constant.{Constant}
use Rattle.jmodel.specs.declared.class_file.Constant.TheVariants.{Utf8, Integer, Long, Class, Field, Method, InterfaceMethod, NameAndType, Second}
use Rattle.jmodel.specs.declared.refusal.Refusal.{Refusal}
use Rattle.jmodel.specs.declared.refusal.Refusal.TheVariants.{PoolFull}
use Rattle.jmodel.specs.declared.refusal.Halt.{Halt}
use Rattle.jmodel.specs.declared.refusal.Halt.TheVariants as halts
use Rattle.jmodel.specs.format.ClassFile.{Pool}
use Rattle.jmodel.specs.format.Pool.{utf8, class_name, entry}
use Rattle.jmodel.specs.format.ClassRules.{same_text}
use Rattle.jmodel.specs.format.Reading.{◌>>=◌}

-- an index and the pool that has it
abbrev pub Added : Type 0
Added = Result (ℕ × Pool) Refusal

abbrev pub full : Added
full = Err (PoolFull [])

-- new entries at the end, where the count field has room for them
abbrev pub put : Pool → List Constant → Added
put pool cs = if nat_lt 65534 (length pool + length cs) then full else Ok (suc (length pool), pool ++ cs)

-- the first entry that means the wanted, else what is added
abbrev pub first_or : Pool → Option ℕ → Added → Added
first_or pool (Some i) new = Ok (suc i, pool)
first_or pool None new = new

-- ---- what entries mean

abbrev pub means_text : List ℕ → Constant → Bool
means_text text (Utf8 t) = same_text (Some t) text
means_text text c = false

abbrev pub means_class : Pool → List ℕ → Constant → Bool
means_class pool name (Class n) = same_text (utf8 pool n) name
means_class pool name c = false

abbrev pub means_pair : Pool → List ℕ → List ℕ → Constant → Bool
means_pair pool name descriptor (NameAndType n d) = same_text (utf8 pool n) name && same_text (utf8 pool d) descriptor
means_pair pool name descriptor c = false

-- the NameAndType of an index means this
abbrev pub pair_means : Option Constant → Pool → List ℕ → List ℕ → Bool
pair_means None pool name descriptor = false
pair_means (Some c) pool name descriptor = means_pair pool name descriptor c

-- the class and the pair of a reference of each kind
abbrev pub field_parts : Constant → Option (ℕ × ℕ)
field_parts (Field class pair) = Some (class, pair)
field_parts c = None

abbrev pub method_parts : Constant → Option (ℕ × ℕ)
method_parts (Method class pair) = Some (class, pair)
method_parts c = None

abbrev pub interface_method_parts : Constant → Option (ℕ × ℕ)
interface_method_parts (InterfaceMethod class pair) = Some (class, pair)
interface_method_parts c = None

abbrev pub parts_mean : Option (ℕ × ℕ) → Pool → List ℕ → List ℕ → List ℕ → Bool
parts_mean None pool class name descriptor = false
parts_mean (Some p) pool class name descriptor = same_text (class_name pool p.0) class && pair_means (entry pool p.1) pool name descriptor

abbrev pub means_member : (Constant → Option (ℕ × ℕ)) → Pool → List ℕ → List ℕ → List ℕ → Constant → Bool
means_member parts pool class name descriptor c = parts_mean (parts c) pool class name descriptor

abbrev pub means_integer : ℤ → Constant → Bool
means_integer n (Integer m) = int_eq m n
means_integer n c = false

abbrev pub means_long : ℤ → Constant → Bool
means_long n (Long m) = int_eq m n
means_long n c = false

-- ---- what is added

unfoldable pub add_text : Pool → List ℕ → Added
add_text pool text = first_or pool (position (means_text text) pool) (if nat_lt 65535 (length text) then full else put pool (Utf8 text ∷ []))

unfoldable pub add_integer : Pool → ℤ → Added
add_integer pool n = first_or pool (position (means_integer n) pool) (put pool (Integer n ∷ []))

unfoldable pub add_long : Pool → ℤ → Added
add_long pool n = first_or pool (position (means_long n) pool) (put pool (Long n ∷ Second ∷ []))

unfoldable pub new_class : Pool → List ℕ → Added
new_class pool name = do
  text ← add_text pool name
  put text.1 (Class text.0 ∷ [])

unfoldable pub add_class : Pool → List ℕ → Added
add_class pool name = first_or pool (position (means_class pool name) pool) (new_class pool name)

unfoldable pub new_pair : Pool → List ℕ → List ℕ → Added
new_pair pool name descriptor = do
  first ← add_text pool name
  second ← add_text first.1 descriptor
  put second.1 (NameAndType first.0 second.0 ∷ [])

unfoldable pub add_pair : Pool → List ℕ → List ℕ → Added
add_pair pool name descriptor = first_or pool (position (means_pair pool name descriptor) pool) (new_pair pool name descriptor)

unfoldable pub new_member : (ℕ → ℕ → Constant) → Pool → List ℕ → List ℕ → List ℕ → Added
new_member make pool class name descriptor = do
  above ← add_class pool class
  pair ← add_pair above.1 name descriptor
  put pair.1 (make above.0 pair.0 ∷ [])

abbrev pub add_member : (Constant → Option (ℕ × ℕ)) → (ℕ → ℕ → Constant) → Pool → List ℕ → List ℕ → List ℕ → Added
add_member parts make pool class name descriptor = first_or pool (position (means_member parts pool class name descriptor) pool) (new_member make pool class name descriptor)

abbrev pub add_field : Pool → List ℕ → List ℕ → List ℕ → Added
add_field pool class name descriptor = add_member field_parts Field pool class name descriptor

abbrev pub add_method : Pool → List ℕ → List ℕ → List ℕ → Added
add_method pool class name descriptor = add_member method_parts Method pool class name descriptor

abbrev pub add_interface_method : Pool → List ℕ → List ℕ → List ℕ → Added
add_interface_method pool class name descriptor = add_member interface_method_parts InterfaceMethod pool class name descriptor

-- An answer is what adding gives; a refused or failed call adds nothing.
abbrev pub Adds : Result ℕ Halt → Pool → Pool → Added → Type 0
Adds (Ok i) old new read = read ≡ Ok (i, new)
Adds (Err halts.NoMemory) old new read = new ≡ old
Adds (Err (halts.Refused r)) old new read = (read ≡ Err r) × (new ≡ old)

-- The same on the way: what was put by then stays.
abbrev pub Puts : Result ℕ Halt → Pool → Added → Type 0
Puts (Ok i) new read = read ≡ Ok (i, new)
Puts (Err halts.NoMemory) new read = Unit {0}
Puts (Err (halts.Refused r)) new read = read ≡ Err r

-- the old entries stay, and others may stand behind them
abbrev pub IsLonger : Pool → Pool → Type 0
IsLonger old new = (more : Pool) × (new ≡ old ++ more)
