-- Numbers in words of the command line.
use Rattle.std.specs.Prelude.{◌≡◌, ℕ, ◌<◌, ◌^◌, List}
use Rattle.std.specs.Fmt.{decimal}

-- a number of at most ten decimal digits, without a 0 before it
abbrev pub IsNumber : List ℕ → ℕ → Type 0
IsNumber word n = (n < 10 ^ 10) × (word ≡ decimal n)

abbrev pub IsNoNumber : List ℕ → Type 0
IsNoNumber word = (n : ℕ) → IsNumber word n → ⊥
