-- Places that code can have.
use Rattle.std.specs.Prelude.{ℕ, Option, Some, None, nat_lt, if◌then◌else◌}

-- a place up to 65535
abbrev pub within : ℕ → Option ℕ
within at = if nat_lt 65535 at then None else Some at
