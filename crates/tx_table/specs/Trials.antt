-- Attempts of the tests, each of which adds one to a word.
use Rattle.std.specs.Prelude.{◌≡◌, ℕ, suc, ◌+◌, ◌%◌, ◌^◌, ◌<◌, [], ◌∷◌, None, Bool, ◌==◌}
use mathlib.Core.Option.{Option, none, some}
use Rattle.jmodel.specs.history.History.{Call, Entry}
use Rattle.tx_table.specs.Book.{Map, lookup, Region, Unticked, Book}
use Rattle.tx_table.specs.Plays.{update_entry, used_in}
use Rattle.jmodel.specs.declared.value.Answer.TheVariants.{Returned}

-- the n-th call of a lane
abbrev pub the_call : ℕ → ℕ → Call
the_call lane n = record { phase = 0; lane = lane; index = n; method = 0; args = []; region = suc lane }

abbrev pub Before : ℕ → ℕ → Option Call → Type 0
Before lane n none = Unit {0}
Before lane n (some c) = (m : ℕ) × (m < n) × (c ≡ the_call lane m)

-- the pass holds the lane's region, whose last call is one before the n-th
abbrev pub Ready : ℕ → ℕ → Book → Type 0
Ready lane n b = (b.face.held ≡ []) × (b.face.stage ≡ Unticked) × ((g : Region) × (lookup b.regions (suc lane) ≡ some g) × Before lane n g.last)

-- what was read, plus one
abbrev pub plus_one : Map ℕ → Map ℕ
plus_one [] = []
plus_one (x ∷ xs) = (x.0, (x.1 + 1) % 2 ^ 64) ∷ []

-- the entry of such an attempt
abbrev pub adding : Book → Entry
adding v = update_entry v (Returned None) (used_in (lookup v.regions v.call.region))

-- the region of lane 1
abbrev pub of_lane_one : ℕ → Bool
of_lane_one r = r == 2
