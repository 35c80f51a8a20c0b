-- Where the blocks of a duplicate begin, as a table.
use Rattle.std.specs.Prelude.{ℕ, zero, suc, ◌+◌, List, [], ◌∷◌}
use Rattle.objects.specs.declared.op.Op.{Op}
use Rattle.objects.specs.typing.Typing.{Table, types_at}
use Rattle.objects.specs.rewriting.Rewriting.{block_len_of}

-- The places of the blocks of instructions from one on, of which the first begins at a place; behind them the place after the last.
abbrev pub starts_from : ℕ → ℕ → Table → List Op → List ℕ
starts_from at pc T [] = at ∷ []
starts_from at pc T (o ∷ os) = at ∷ starts_from (at + block_len_of (types_at T pc) o) (suc pc) T os

-- the place with a number; past the end the last
abbrev pub start_of : List ℕ → ℕ → ℕ
start_of [] n = 0
start_of (s ∷ []) n = s
start_of (s ∷ t ∷ ss) zero = s
start_of (s ∷ t ∷ ss) (suc n) = start_of (t ∷ ss) n

abbrev pub last_of : List ℕ → ℕ
last_of [] = 0
last_of (s ∷ []) = s
last_of (s ∷ t ∷ ss) = last_of (t ∷ ss)
