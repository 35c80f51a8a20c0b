-- What a table of shared words is opened for, for the lanes of a run.
use Rattle.std.specs.Prelude.{ℕ, zero, suc, List, [], ◌∷◌, Bool, nat_eq}
use Rattle.jmodel.specs.history.History.{Entry}
use Rattle.tx_table.specs.Book.{Map}
use Rattle.tx_table.specs.Rule.{Story}

-- the regions of the first n lanes, of which no word is used
abbrev pub lane_regions : ℕ → Map ℕ
lane_regions zero = []
lane_regions (suc n) = (suc n, 0) ∷ lane_regions n

-- region 0, of which so many words are used, and those of sixteen lanes
abbrev pub first_regions : ℕ → Map ℕ
first_regions used = (0, used) ∷ lane_regions 16

-- these words, of which so many are used in region 0, the regions of sixteen lanes, and entries by a rule
abbrev pub story_of : (Entry → Type 0) → List ℕ → ℕ → Story
story_of rule words used = record { words = words; regions = first_regions used; runs = rule }

-- the region of a lane
abbrev pub of_lane : ℕ → ℕ → Bool
of_lane lane region = nat_eq region (suc lane)
