-- What is known of an engine whose conflicts are kept.
use Rattle.std.specs.Prelude.{◌≡◌, ℕ, List, []}
use Rattle.jmodel.specs.history.Log.{Log}
use Rattle.jmodel.specs.history.History.{Call, Entry}

-- The engine stands for this; until an entry is added, it awaits the call.
abbrev pub StandsFor : Call → ℕ → (List Entry → ℕ → Log → Log → Type 0) → (Call → ℕ → Type 0) → List Entry → ℕ → Log → Log → Type 0
StandsFor c used S A h n r w = S h n r w × (h ≡ [] → A c used)

-- No entry was added, and no attempt is open.
abbrev pub IsFresh : Call → ℕ → (List Entry → ℕ → Log → Log → Type 0) → (Call → ℕ → Type 0) → Type 0
IsFresh c used S A = (n : ℕ) × StandsFor c used S A [] n [] []
