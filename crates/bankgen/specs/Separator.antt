-- What stands between the items of a list.
use Rattle.std.specs.Prelude.{ℕ, zero, suc, List, [], ◌∷◌}

-- before the item of a number: a comma, 44, but before the first nothing
abbrev pub separator : ℕ → List ℕ
separator zero = []
separator (suc n) = 44 ∷ []
