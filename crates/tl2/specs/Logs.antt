-- The addresses that an engine keeps.
use Rattle.std.specs.Prelude.{◌≡◌, ◌≢◌, ◌<◌, ℕ, List, All, reverse}
use Rattle.tx_table.specs.Book.{Book}
use Rattle.tx_table.specs.Plays.{keys}
use Rattle.tl2.specs.declared.attempt.At.{At}
use Rattle.tl2.specs.declared.attempt.At.TheVariants.{Outside}

-- inside an attempt these are the addresses that its book has as read, and they lie below `words`
abbrev pub IsLogged : ℕ → At → List ℕ → Book → Type 0
IsLogged words at addresses v = at ≢ Outside → (reverse addresses ≡ keys v.reads) × All (λ a. a < words) addresses
