-- The writes that an attempt keeps back.
use Rattle.std.specs.Prelude.{◌≡◌, ℕ, List, [], ◌∷◌, map, nat_eq, reverse}
use Rattle.std.specs.Map.{lookup, keys_of}
use Rattle.std.specs.declared.snapshot.Snapshot.{Snapshot}
use Rattle.indexmap.specs.IndexSet.{insert_key}
use Rattle.jmodel.specs.declared.access.Access.{Access}
use Rattle.jmodel.specs.history.Log.{Log, written}

-- writes, the oldest first
pub record Kept : Type 0 where
  pub items : List Access

-- what snapshots show
abbrev pub accesses_of : List (Snapshot Access) → List Access
accesses_of shown = map (λ (s : Snapshot Access). s.value) shown

-- the addresses of writes, the last first, each once and in the order of their first writes
abbrev pub first_written : Log → List ℕ
first_written [] = []
first_written (l ∷ w) = insert_key nat_eq (first_written w) l.address

-- Entries have for each address the last word that these writes, the oldest first, put there, in the order of the first writes.
pub record IsIndexed (items : List Access) (entries : List (ℕ × ℕ)) : Type 0 where
  pub words : (a : ℕ) → lookup (nat_eq a) entries ≡ written (reverse items) a
  pub order : keys_of entries ≡ first_written (reverse items)
