-- What is kept of the calls of a lane.
use Rattle.std.specs.Prelude.{◌≡◌, ◌≤◌, ℕ, suc, List, [], ◌∷◌, length, map, filter, take, Bool, not}
use Rattle.jmodel.specs.history.History.{Entry, Told, told}
use Rattle.jmodel.specs.history.Schedule.{Known, is_memory, lane_calls}
use Rattle.session.specs.declared.record.Record.{Record}
use Rattle.session.specs.declared.record.Lane.{Lane}
use Rattle.session.specs.declared.record.Place.{Place}
use Rattle.session.specs.Rule.{calls_of}

-- a call that ran out of memory has no place in the history
abbrev pub is_unplaced : Told → Bool
is_unplaced t = is_memory t.answer

abbrev pub is_placed : Told → Bool
is_placed t = not (is_memory t.answer)

-- what is kept of a call
abbrev pub record_of : Told → Record
record_of t = record { phase = t.call.phase; lane = t.call.lane; index = t.call.index; method = t.call.method; stamp = t.stamp; answer = t.answer }

-- These entries follow one another in a region: the first found so many of its words used, each next one those that the one before it left, and the
-- last left so many.
abbrev pub Takes : ℕ → ℕ → List Entry → ℕ → Type 0
Takes region before [] after = after ≡ before
Takes region before (e ∷ h) after = (e.call.region ≡ region) × (e.used_before ≡ before) × Takes region e.used_after h after

-- The first of these calls, which stand in a lane from a place on, were made: those that are placed added these entries, in their order. So many
-- words of the lane's region were used before them, none of which they gave back.
pub record HasMade (at : Place) (before : ℕ) (calls : List Known) (h : List Entry) (lane : Lane) : Type 0 where
  pub tolds : List Told
  pub within : lane.made ≤ length calls
  pub calls_are : calls_of tolds ≡ lane_calls at.phase at.lane at.first (take lane.made calls)
  pub history : map told h ≡ filter is_placed tolds
  pub takes : Takes (suc at.lane) before h lane.used
  pub grows : before ≤ lane.used
  pub placed_are : lane.placed.items ≡ map record_of (filter is_placed tolds)
  pub unplaced_are : lane.unplaced.items ≡ map record_of (filter is_unplaced tolds)
