-- How many calls and ticks are left of a lane's.
use Rattle.std.proofs.Common.{◌≡◌, ◌≤◌, ◌<◌, ◌+◌, ◌*◌, ℕ, arith}

-- a call that is left is one of the few
pub few_left : (first made i n most : ℕ) → made ≡ i → i < n → first + n ≤ most → made < most
few_left first made i n most count less few = omega arith

pub place_left : (first i n most : ℕ) → i < n → first + n ≤ most → first + i ≤ most
place_left first i n most less few = omega arith

-- the clock has ticks left for a call
pub clock_left : (start ticks now i n most : ℕ) → ticks ≤ start + i * 1000000 → i < n → start + n * 1000000 ≤ most → now ≡ ticks → now + 1000000 ≤ most
clock_left start ticks now i n most before less room same = omega arith

-- a call more took its ticks
pub ticks_more : (start ticks now after attempts i : ℕ) → ticks ≤ start + i * 1000000 → now ≡ ticks → after ≤ now + attempts → attempts ≤ 1000000 → after ≤ start + (i + 1) * 1000000
ticks_more start ticks now after attempts i before same took most = omega arith

-- none was taken yet
pub ticks_first : (start now : ℕ) → now ≡ start → now ≤ start + 0 * 1000000
ticks_first start now same = omega arith

-- the ticks of a call are among those of all
pub ticks_within : (start ticks now after attempts i n : ℕ) → ticks ≤ start + i * 1000000 → now ≡ ticks → after ≤ now + attempts → attempts ≤ 1000000 → i < n → after ≤ start + n * 1000000
ticks_within start ticks now after attempts i n before same took most less = omega arith

pub is_left : (made i n : ℕ) → made ≡ i → i < n → made < n
is_left made i n count less = omega arith

pub is_last : (i all many : ℕ) → all ≡ many → many ≡ i + 1 → i < all
is_last i all many same more = omega arith

pub at_most : (i n : ℕ) → i < n → i ≤ n
at_most i n less = omega arith

-- a call that was not made is none of those that were
pub not_all : (made before taken i : ℕ) → made ≡ taken → taken ≡ i + 1 → made ≡ before → before ≡ i → ⊥
not_all made before taken i all more kept count = omega arith

-- a number is left to be claimed
pub claim_left : (i left n : ℕ) → i + left ≡ n + 1 → i < n → 0 < left
claim_left i left n all less = omega arith
