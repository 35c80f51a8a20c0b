-- Phases whose calls are made over one table of shared words.
use Rattle.std.specs.Prelude.{◌≡◌, ◌≤◌, ◌<◌, ◌+◌, ◌*◌, ℕ, suc, List, ◌++◌, map, All, AllPairs, IsPermutation, filter, true, false}
use Rattle.std.specs.List.{AllByRecursion, flat_map}
use Rattle.jmodel.specs.declared.value.Answer.TheVariants.{NoMemory}
use Rattle.tx_table.specs.Book.{Book, In}
use Rattle.jmodel.specs.history.History.{Call, Entry, Told, told, comes_first}
use Rattle.jmodel.specs.history.Schedule.{Phase, ScriptPhase, AreDealt, ascends}
use Rattle.tl2.specs.Standing.{IsBehind}
use Rattle.session.specs.declared.record.Record.{Record}
use Rattle.session.specs.Rule.{calls_of}
use Rattle.session.specs.Lane.{is_placed, record_of}
use Rattle.driver.specs.declared.journal.Records.{Records}
use Rattle.driver.specs.declared.side.Part.{Part}
use Rattle.driver.specs.Sides.{AreParts}

-- a call as its entry tells it, and the index that the journal gives it
pub record Shown : Type 0 where
  pub made : Told
  pub index : ℕ

-- the calls as their entries tell them
abbrev pub made_in : List Shown → List Told
made_in ss = map (λ (s : Shown). s.made) ss

-- the call as the journal has it
abbrev pub as_shown : Shown → Told
as_shown s = record s.made { call = record s.made.call { index = s.index } }

abbrev pub shown_in : List Shown → List Told
shown_in ss = map as_shown ss

-- of two calls of one lane and phase, the one that was made first stands first in the journal, too
abbrev pub KeepsLane : Shown → Shown → Type 0
KeepsLane s t = s.made.call.phase ≡ t.made.call.phase → s.made.call.lane ≡ t.made.call.lane → s.made.call.index < t.made.call.index → s.index < t.index

-- a call of a lane, which takes words from the lane's region
abbrev pub IsOfRegion : Told → Type 0
IsOfRegion t = t.call.region ≡ suc t.call.lane

-- a call stands behind all that was known at a value of the clock
abbrev pub StandsBehind : ℕ → Told → Type 0
StandsBehind seen t = (seen ≤ t.stamp.at) × (t.stamp.update ≡ true → seen < t.stamp.at)

-- Of each lane's calls, from a place on, the first were made. These entries were added, and this is kept of the calls, lane by lane.
pub record IsMadeOver (phase : ℕ) (lanes : Phase) (firsts : List ℕ) (entries : List Entry) (placed : List Record) (parts : List Part) : Type 0 where
  pub tolds : List (List Told)
  pub parts_are : AreParts phase 0 lanes firsts tolds parts
  pub history : IsPermutation (map told entries) (flat_map (filter is_placed) tolds)
  pub placed_are : placed ≡ map record_of (flat_map (filter is_placed) tolds)

-- The calls of a phase, each once. The placed ones are told of these entries and stand in the order of history, behind all that was known
-- before and not over what is known later; the unplaced ones ran out of memory, and stand by lane and index.
pub record IsPhaseOver (phase : ℕ) (p : ScriptPhase) (entries : List Entry) (seen later : ℕ) (placed : List Shown) (unplaced : List Told) : Type 0 where
  pub calls : List Call
  pub are_dealt : AreDealt phase p calls
  pub each_once : IsPermutation calls (calls_of (shown_in placed ++ unplaced))
  pub unplaced_order : AllPairs (λ c d. ascends c d ≡ true) (calls_of unplaced)
  pub no_memory : AllByRecursion (λ (t : Told). t.answer ≡ NoMemory) unplaced
  pub history : IsPermutation (map told entries) (made_in placed)
  pub in_order : AllPairs (λ (s t : Shown). comes_first t.made s.made ≡ false) placed
  pub lanes_kept : AllPairs KeepsLane placed
  pub of_lanes : All (λ (s : Shown). IsOfRegion s.made) placed
  pub behind : All (λ (s : Shown). StandsBehind seen s.made) placed
  pub known : All (λ (s : Shown). s.made.stamp.at ≤ later) placed

-- What a phase of so many calls adds to a pass: these entries, which stand behind all that was known before and aren't over what is known then.
pub record HasAdded (count : ℕ) (b v : Book) (added : List Entry) : Type 0 where
  pub fresh : b.fresh ≤ v.fresh + 16
  pub few : v.fresh ≤ b.fresh
  pub ticks : v.ticks ≤ b.ticks + count * 2000000
  pub entries : IsPermutation v.entries (b.entries ++ added)
  pub on : b.seen ≤ v.seen
  pub stand_behind : (e : Entry) → In e added → IsBehind b.seen e
  pub known : (e : Entry) → In e added → e.stamp.at ≤ v.seen

-- a journal with the calls of a phase added, so many, that were made over a table by a pass that had the book b and then v
pub record AddsPhase (phase count : ℕ) (p : ScriptPhase) (b v : Book) (old new : Records) : Type 0 where
  pub entries : List Entry
  pub placed : List Shown
  pub unplaced : List Told
  pub adds : HasAdded count b v entries
  pub is_phase : IsPhaseOver phase p entries b.seen v.seen placed unplaced
  pub placed_are : new.placed.items ≡ old.placed.items ++ map record_of (shown_in placed)
  pub unplaced_are : new.unplaced.items ≡ old.unplaced.items ++ map record_of unplaced
