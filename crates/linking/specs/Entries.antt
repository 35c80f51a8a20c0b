-- Where an exception entry begins, ends and leads.
use Rattle.std.specs.Prelude.{ℕ, Option, Some, None}

-- all three places, where there are three
abbrev pub three_places : Option ℕ → Option ℕ → Option ℕ → Option (ℕ × ℕ × ℕ)
three_places (Some from) (Some to) (Some at) = Some (from, to, at)
three_places from to at = None
