-- What is asked of JSON data, and the refusal where it isn't so.
use Rattle.std.specs.Prelude.{◌≡◌, ℤ, ℕ, suc, List, [], ◌∷◌, ◌++◌, Option, Some, None, Result, Ok, Err, Bool, true, false, ◌&&◌, bytes_eq, option_map, option_and_then, is_some}
use Rattle.std.specs.List.{list_any}
use Rattle.std.specs.Fmt.{decimal}
use Rattle.serde_json.specs.Data.{Data, Items, no_items, item, Members, no_members, member}
use Rattle.serde_json.specs.Find.{get, as_number, as_array, as_object, as_i64}
use Rattle.jmodel.specs.declared.refusal.Refusal.{Refusal}
use Rattle.jmodel.specs.declared.refusal.Refusal.TheVariants.{BadShape}
use Rattle.jmodel.specs.declared.refusal.Halt.{Halt}
use Rattle.jmodel.specs.declared.refusal.Halt.TheVariants as halts
use Rattle.jmodel.specs.format.Reading.{◌>>=◌}

-- ---- where a value stands: JSON Pointer (RFC 6901); 47 is the slash

abbrev pub under : List ℕ → List ℕ → List ℕ
under path key = path ++ 47 ∷ key

abbrev pub at : List ℕ → ℕ → List ℕ
at path i = under path (decimal i)

-- the path of the whole is no text, and is printed as a slash
abbrev pub shown : List ℕ → List ℕ
shown [] = 47 ∷ []
shown (c ∷ path) = c ∷ path

abbrev pub bad_shape : List ℕ → Refusal
bad_shape path = BadShape (shown path)

-- ---- what is asked

abbrev pub must : {A : Type 0} → Bool → Refusal → Result A Refusal → Result A Refusal
must true r x = x
must false r x = Err r

abbrev pub or_refused : {A : Type 0} → Refusal → Option A → Result A Refusal
or_refused r None = Err r
or_refused r (Some x) = Ok x

-- what each item of a list gives by its place, or the first refusal
abbrev pub each_from : {A B : Type 0} → (ℕ → A → Result B Refusal) → ℕ → List A → Result (List B) Refusal
each_from f i [] = Ok []
each_from f i (x ∷ xs) = f i x >>= λ y. each_from f (suc i) xs >>= λ ys. Ok (y ∷ ys)

-- ---- values

abbrev pub data_in : Items → List Data
data_in no_items = []
data_in (item d ds) = d ∷ data_in ds

abbrev pub as_list : Data → Option (List Data)
as_list d = option_map data_in (as_array d)

-- a whole number of at most 64 bits with its sign
abbrev pub as_whole : Data → Option ℤ
as_whole d = option_and_then as_i64 (as_number d)

abbrev pub has_only : List (List ℕ) → Members → Bool
has_only keys no_members = true
has_only keys (member k d ms) = list_any (bytes_eq k) keys && has_only keys ms

abbrev pub if_only : List (List ℕ) → Option Members → Bool
if_only keys None = false
if_only keys (Some ms) = has_only keys ms

-- an object that has no other keys than these
abbrev pub is_object_of : List (List ℕ) → Data → Bool
is_object_of keys d = if_only keys (as_object d)

-- an object that has this key and no other
abbrev pub is_object_with : List ℕ → Data → Bool
is_object_with key d = is_object_of (key ∷ []) d && is_some (get key d)

-- the value of a key of an object at a path; where it isn't there, its path is told, too
abbrev pub wanted : {A : Type 0} → (Data → Option A) → List ℕ → List ℕ → Data → Result A Refusal
wanted f path key d = or_refused (bad_shape (under path key)) (option_and_then f (get key d))

-- the same of a value that may be left out
abbrev pub if_there : {A : Type 0} → (Data → Option A) → A → Refusal → Option Data → Result A Refusal
if_there f other r None = Ok other
if_there f other r (Some d) = or_refused r (f d)

abbrev pub may_be : {A : Type 0} → (Data → Option A) → A → List ℕ → List ℕ → Data → Result A Refusal
may_be f other path key d = if_there f other (bad_shape (under path key)) (get key d)

-- ---- what code answers

-- A test passed, or this refusal is told, or memory ran out.
abbrev pub Tells : Bool → Refusal → Halt → Type 0
Tells b r halts.NoMemory = Unit {0}
Tells b r (halts.Refused e) = (b ≡ false) × (e ≡ r)

abbrev pub Tests : {X : Type 0} → Result X Halt → Bool → Refusal → Type 0
Tests (Ok x) b r = b ≡ true
Tests (Err e) b r = Tells b r e

-- This refusal is told, or memory ran out.
abbrev pub IsRefused : Refusal → Halt → Type 0
IsRefused r halts.NoMemory = Unit {0}
IsRefused r (halts.Refused e) = e ≡ r
