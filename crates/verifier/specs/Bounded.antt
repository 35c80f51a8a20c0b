-- What a search answers that looks at no place of a method behind a last one.
use Rattle.std.specs.Prelude.{◌≡◌, ℕ, length, Option, Some, None}
use Rattle.objects.specs.semantics.Program.{Method, Program}
use Rattle.objects.specs.typing.Typing.{Types, Table, Covers, IsTypingUpTo, types_at}

-- no table meets the rules of the instructions up to a place
abbrev pub IsUntypedUpTo : Program → Method → ℕ → Type 0
IsUntypedUpTo P k last = (T : Table) → IsTypingUpTo P k last T → ⊥

-- A table of the method's places that meets these rules, and the narrowest: each other one has types that are at least as wide.
pub record IsTableUpTo (P : Program) (k : Method) (last : ℕ) (T : Table) : Type 0 where
  pub size : length T ≡ length k.ops
  pub typing : IsTypingUpTo P k last T
  pub narrowest : (U : Table) → IsTypingUpTo P k last U → (pc : ℕ) (h : Types) → types_at T pc ≡ Some h → Covers P k U h pc

-- such a table, or none where there is none
abbrev pub IsFoundUpTo : Program → Method → ℕ → Option Table → Type 0
IsFoundUpTo P k last None = IsUntypedUpTo P k last
IsFoundUpTo P k last (Some T) = IsTableUpTo P k last T
