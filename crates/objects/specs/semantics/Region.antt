-- Regions of memory, from which calls take words.
use Rattle.std.specs.Prelude.{ℕ, ◌+◌, ◌*◌, ◌^◌, Bool, ◌&&◌, nat_lt, nat_le}

-- A region by its number, with how many words each region has.
pub record Region : Type 0 where
  pub number : ℕ
  pub size : ℕ

-- where the next object of a region lies, of which so many words are used
abbrev pub next_reference : Region → ℕ → ℕ
next_reference G used = G.number * G.size + used

-- Whether a region, of which so many words are used, has n words more. Those at address 0, which is null, and at address 1, the
-- conflict's, are none that it has, nor those whose address hasn't 64 bits.
abbrev pub has_words : Region → ℕ → ℕ → Bool
has_words G used n = nat_lt 1 (next_reference G used) && (nat_le (used + n) G.size && nat_le (next_reference G used + n) (2 ^ 64))
