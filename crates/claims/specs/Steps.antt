-- What a claim tells its pass.
use Rattle.std.specs.Prelude.{◌≡◌, ℕ, ◌<◌, ◌^◌}
use Rattle.std.specs.List.{AllByRecursion}
use Rattle.atomic_table.specs.Table.{State, Me, Step}
use Rattle.claims.specs.Claims.{Claims, Rule, IsGathered, claimed, below}

-- the rule, of a table's words and views
abbrev pub IsKept : {S : Type 0} → State S Claims → Type 0
IsKept s = Rule s.words s.views

-- the number that is found is claimed; it is over those before, and a gathered pass has all below it
abbrev pub Takes : {S : Type 0} → Step S → Me S Claims → ℕ → Me S Claims → Type 0
Takes st m n m' = (m' ≡ (claimed m.0 n, m.1)) × (n < 2 ^ 32) × AllByRecursion (λ i. i < n) m.0.indexes × (IsGathered m.0 → m.0.indexes ≡ below n)
