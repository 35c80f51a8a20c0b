-- The transfers of a workload, drawn by a linear congruential generator of 64 bits.
use Rattle.std.specs.Prelude.{ℕ, zero, suc, ◌+◌, ◌*◌, ◌/◌, ◌%◌, ◌^◌}
use Rattle.bankgen.specs.declared.transfers.Transfer.{Transfer}

-- what a draw makes of the generator's number
abbrev pub next : ℕ → ℕ
next s = (6364136223846793005 * s + 1442695040888963407) % 2 ^ 64

-- that number after so many draws; it begins as the seed
unfoldable pub after : ℕ → ℕ → ℕ
after seed zero = seed
after seed (suc n) = next (after seed n)

-- what a draw gives, by its number from 0
abbrev pub draw : ℕ → ℕ → ℕ
draw seed n = after seed (suc n) / 2 ^ 33

-- the transfer of a call, by its number from 0: three draws give its accounts and its amount, 1 to 10
abbrev pub transfer : (seed accounts k : ℕ) → Transfer
transfer seed accounts k = record {
  from = draw seed (3 * k) % accounts;
  to = draw seed (3 * k + 1) % accounts;
  amount = draw seed (3 * k + 2) % 10 + 1;
}
