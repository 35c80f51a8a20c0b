-- Words that an attempt read or wrote, by their addresses, the last first.
use Rattle.std.specs.Prelude.{ℕ, List, ◌∷◌, Option, Some, None, nat_eq, option_map, find, unwrap_or}
use Rattle.jmodel.specs.declared.access.Access.{Access}

-- reads or writes, the last first
abbrev pub Log : Type 0
Log = List Access

abbrev pub access : ℕ → ℕ → Access
access a v = record { address = a; word = v }

-- the last word that was written to an address
abbrev pub written : Log → ℕ → Option ℕ
written w a = option_map (λ (l : Access). l.word) (find (λ (l : Access). nat_eq l.address a) w)

-- that word, or else what memory answers
abbrev pub answered : Log → ℕ → ℕ → ℕ
answered w a v = unwrap_or (written w a) v

-- a read of an address that the attempt wrote is not one of the entry's reads
abbrev pub recorded : Option ℕ → ℕ → ℕ → Log → Log
recorded (Some own) a v r = r
recorded None a v r = access a v ∷ r
