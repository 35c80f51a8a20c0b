-- Regions of memory, from which words are taken one behind another.
use Rattle.std.specs.Prelude.{ℕ}

-- the words from an address on, of which the first are used
pub record Words : Type 0 where
  pub base : ℕ
  pub size : ℕ
  pub used : ℕ
