-- What a worker takes of a bag.
use Rattle.std.specs.Prelude.{◌≡◌, ◌⊎◌, ◌≤◌, ◌+◌, ℕ, List, [], ◌∷◌, ◌++◌, length, map, filter, nat_lt, slice_index_or}
use Rattle.jmodel.specs.history.Schedule.{Known}
use Rattle.claims.specs.Claims.{Claims, Ascends}

-- the calls at these indexes
abbrev pub calls_at : List Known → List ℕ → List Known
calls_at calls indexes = map (λ i. slice_index_or calls i (record { method = 0; args = [] })) indexes

-- Of a bag of n calls a worker took those at these indexes, in the order in which it claimed them: those of its claims that are indexes.
pub record HasTaken (n : ℕ) (claims : Claims) (indexes : List ℕ) : Type 0 where
  pub indexes_are : indexes ≡ filter (λ i. nat_lt i n) claims.indexes
  pub ascends : Ascends indexes
  pub all : length claims.indexes + claims.left ≡ n + 1

-- The bag has no call left for a worker that took those at these indexes: it took all n, or the number that it claimed last is no index.
abbrev pub HasEmptied : ℕ → Claims → List ℕ → Type 0
HasEmptied n claims indexes = (length indexes ≡ n) ⊎ ((last : ℕ) × (n ≤ last) × (claims.indexes ≡ indexes ++ last ∷ []))
