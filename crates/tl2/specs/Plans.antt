-- What a commit takes and looks at once more.
use Rattle.std.specs.Prelude.{◌≡◌, ◌%◌, ◌==◌, ◌||◌, ℕ, Bool, true, false, not, Some, List, [], ◌∷◌, All, map, filter, IsSome}
use Rattle.std.specs.List.{list_any}
use Rattle.std.specs.List.Sorted.{IsStrictlyIncreasing}
use Rattle.std.specs.Ordering.{nat_cmp}
use Rattle.std.specs.BTreeMap.{BTreeMap, get}
use mathlib.Core.Option.{none}
use Rattle.jmodel.specs.history.Log.{Log, access}
use Rattle.tx_table.specs.Book.{Map, Has, lookup, pairs}
use Rattle.tl2.specs.declared.plan.Stripe.{Stripe}

-- the number of a stripe
abbrev pub number_of : Stripe → ℕ
number_of s = s.address % 4096

-- the written addresses by which stripes are known
abbrev pub addresses_of : List Stripe → List ℕ
addresses_of stripes = map (λ (s : Stripe). s.address) stripes

-- the numbers of stripes, with the words that they had
abbrev pub words_of : List Stripe → Log
words_of stripes = map (λ (s : Stripe). access (number_of s) s.word) stripes

-- one of these addresses lies on the stripe n
abbrev pub touches : List ℕ → ℕ → Bool
touches addresses n = list_any (λ a. a % 4096 == n) addresses

-- no address stands twice
abbrev pub AreApart : Log → Type 0
AreApart [] = Unit {0}
AreApart (l ∷ ls) = (lookup (pairs ls) l.address ≡ none) × AreApart ls

-- A list has each key of a map once, with its word.
pub record IsListed (m : Map ℕ) (ls : Log) : Type 0 where
  pub same : (a : ℕ) → lookup m a ≡ lookup (pairs ls) a
  pub apart : AreApart ls

-- The stripes of these words to be written, by their numbers. None is marked as read.
pub record IsWritten (due : Map ℕ) (stripes : BTreeMap ℕ Stripe) : Type 0 where
  pub only : (n : ℕ) (s : Stripe) → get nat_cmp stripes n ≡ Some s → (number_of s ≡ n) × Has due s.address × (s.was_read ≡ false)
  pub each : (a : ℕ) → Has due a → IsSome (get nat_cmp stripes (a % 4096))

-- a stripe, marked as read where one of these addresses lies on it
abbrev pub marked : List ℕ → ℕ → Stripe → Stripe
marked reads n s = record s { was_read = s.was_read || touches reads n }

-- What an attempt looks at once more, which holds these stripes for these words to be written at the last and read these addresses.
pub record IsHolding (due : Map ℕ) (reads : List ℕ) (stripes : List Stripe) (read_elsewhere : List ℕ) : Type 0 where
  pub each : (a : ℕ) → Has due a → touches (addresses_of stripes) (a % 4096) ≡ true
  pub only : All (Has due) (addresses_of stripes)
  pub elsewhere : read_elsewhere ≡ filter (λ a. not (touches (addresses_of stripes) (a % 4096))) reads

-- A commit's plan, for these words to be written at the last and these addresses that were read.
pub record IsPlan (due : Map ℕ) (reads : List ℕ) (stripes : List Stripe) (read_elsewhere : List ℕ) : Type 0 where
  pub ascending : IsStrictlyIncreasing (map (λ a. a % 4096) (addresses_of stripes))
  pub each : (a : ℕ) → Has due a → touches (addresses_of stripes) (a % 4096) ≡ true
  pub only : All (Has due) (addresses_of stripes)
  pub read : All (λ s. s.was_read ≡ touches reads (number_of s)) stripes
  pub elsewhere : read_elsewhere ≡ filter (λ a. not (touches (addresses_of stripes) (a % 4096))) reads
