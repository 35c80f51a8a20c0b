-- The files of a folder, and what stands directly in a folder among them.
use Rattle.std.specs.Prelude.{◌≡◌, ◌≢◌, ◌<◌, ◌↔◌, ℕ, Bool, List, ◌∷◌, ◌++◌, map, length, slice_index_or, Option, IsSome, Contains, if◌then◌else◌, string_bytes}
use Rattle.std.specs.Bool.{MatchBool}
use Rattle.std.specs.Str.{bytes_eq}
use Rattle.deuce_io.specs.declared.folder.Item.{Item}

-- the content of the file at each path, where there is one
abbrev pub Files : Type 0
Files = List ℕ → Option (List ℕ)

-- these files with this at one path, and the others as they are
abbrev pub with_content : List ℕ → Option (List ℕ) → Files → Files
with_content path content files = λ q. if bytes_eq path q then content else files q

-- the path of what has this name in a folder; 47 is the slash
abbrev pub inside : List ℕ → List ℕ → List ℕ
inside dir name = dir ++ 47 ∷ name

-- The path of a file shows this in the folder: the name has no slash, and the path ends with it, or it goes on
-- after one more slash and shows a folder.
abbrev pub Shows : List ℕ → List ℕ → List ℕ × Bool → Type 0
Shows dir path item =
    (Contains item.0 47 → ⊥) × MatchBool item.1 ((rest : List ℕ) × (path ≡ inside (inside dir item.0) rest)) (path ≡ inside dir item.0)

-- this stands directly in the folder: some file's path shows it
abbrev pub StandsIn : Files → List ℕ → List ℕ × Bool → Type 0
StandsIn files dir item = (path : List ℕ) × IsSome (files path) × Shows dir path item

-- no element stands twice in the list
abbrev pub NoRepeats : {X : Type 0} → List X → Type 0
NoRepeats {X} xs = (i j : ℕ) (d : X) → i < j → j < length xs → slice_index_or xs i d ≢ slice_index_or xs j d

-- these are the items that stand directly in the folder, each once
pub record IsListing (files : Files) (dir : List ℕ) (items : List (List ℕ × Bool)) : Type 0 where
  pub each : (item : List ℕ × Bool) → Contains items item ↔ StandsIn files dir item
  pub once : NoRepeats items

-- an item by the bytes of its name, and whether it is a folder
abbrev pub seen_item : Item → List ℕ × Bool
seen_item item = (string_bytes item.name, item.folder)

-- items as those pairs
abbrev pub seen_items : List Item → List (List ℕ × Bool)
seen_items items = map seen_item items
