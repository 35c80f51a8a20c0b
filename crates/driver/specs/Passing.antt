-- The passes of a phase over a table that phases before it had, too: the one that holds every number between phases, and those of lanes.
use Rattle.std.specs.Prelude.{◌≡◌, ◌≢◌, ◌≤◌, ◌<◌, ◌+◌, ◌*◌, ◌^◌, ℕ, suc, List, [], ◌∷◌, ◌++◌, length, reverse, slice_index, slice_index_or, Result, IfOk}
use mathlib.Core.Option.{none}
use Rattle.std.specs.declared.alloc.AllocError.{AllocError}
use Rattle.atomic_table.specs.Seated.{TableId}
use Rattle.jmodel.specs.history.History.{Entry}
use Rattle.tx_table.specs.Book.{Book, In, lookup}
use Rattle.tx_table.specs.Plays.{used_in}
use Rattle.jmodel.specs.history.Schedule.{Known, Phase}
use Rattle.tx_table.specs.declared.shared.Pass.{Pass}
use Rattle.tx_table.specs.Passes.{book}
use Rattle.tl2.specs.Standing.{IsBehind}
use Rattle.session.specs.declared.record.Place.{Place}
use Rattle.session.specs.declared.record.Record.{Record}
use Rattle.session.specs.declared.record.Lane.{Lane}
use Rattle.session.specs.Lane.{HasMade}
use Rattle.session.specs.Passes.{IsSeated, MayBegin, behind}
use Rattle.driver.specs.declared.side.Part.{Part}
use Rattle.driver.specs.declared.side.Side.{Side}
use Rattle.driver.specs.declared.table.Start.{Start}
use Rattle.driver.specs.Sides.{made_counts}
use Rattle.driver.specs.Gathering.{IsGathered}
use Rattle.driver.specs.Over.{IsMadeOver}

-- the first call of a lane in a phase
abbrev pub first_of : ℕ → ℕ → Place
first_of phase lane = record { phase = phase; lane = lane; first = 0 }

-- how many words of a lane's region are used, as a book has it
abbrev pub used_of : Book → ℕ → ℕ
used_of b lane = used_in (lookup b.regions (suc lane))

-- the calls of a lane from a place on may come next with a book, and its region has the used words that the book says
abbrev pub MayGoOn : Place → Book → Type 0
MayGoOn at b = MayBegin at (used_of b at.lane) b

-- how many words of its region each of sixteen lanes has used, as a book has it
abbrev pub AreUsed : List ℕ → Book → Type 0
AreUsed used b = (lane : ℕ) → lane < 16 → slice_index used lane ≡ used_of b lane

-- how many calls lanes have
abbrev pub call_count : Phase → ℕ
call_count [] = 0
call_count (cs ∷ ls) = length cs + call_count ls

-- A pass with this book may be split for each of sixteen lanes, and so many calls may be made over it, first side by side and then what is left.
pub record HasRoom (count : ℕ) (b : Book) : Type 0 where
  pub fresh : 16 ≤ b.fresh
  pub few : b.fresh ≤ 1048575
  pub ticks : b.ticks + count * 2000000 ≤ 2 ^ 40

-- a pass with every number, with which the calls of this phase and of later ones may begin, on sixteen lanes
pub record IsWhole (t : TableId) (phase : ℕ) (p : Pass) : Type 0 where
  pub seated : IsSeated t p
  pub numbers : (book p).numbers ≡ 1048576
  pub begins : (lane : ℕ) → lane < 16 → MayGoOn (first_of phase lane) (book p)

-- a pass with this book had no pass split off from it yet, and moved the clock nowhere
pub record IsUnused (b : Book) : Type 0 where
  pub fresh : b.fresh ≡ 1048575
  pub ticks : b.ticks ≡ 0
  pub entries : b.entries ≡ []

-- a pass of one number that knows the clock up to a value, with the region of a lane alone, whose calls from a place on may come next
pub record IsOfOne (t : TableId) (seen : ℕ) (at : Place) (p : Pass) : Type 0 where
  pub seated : IsSeated t p
  pub numbers : (book p).numbers ≡ 1
  pub fresh : (book p).fresh ≡ 0
  pub ticks : (book p).ticks ≡ 0
  pub seen_is : (book p).seen ≡ seen
  pub entries : (book p).entries ≡ []
  pub begins : MayGoOn at (book p)
  pub others : (r : ℕ) → r ≢ suc at.lane → lookup (book p).regions r ≡ none

-- the lanes of a phase by number, each with a pass of its own
abbrev pub AreStarting : TableId → ℕ → ℕ → List Start → Type 0
AreStarting t seen phase starts = (i : ℕ) (s : Start) → i < length starts
    → ((slice_index_or starts i s).lane ≡ i) × ((slice_index_or starts i s).used ≡ used_of (book (slice_index_or starts i s).pass) i)
    × IsOfOne t seen (first_of phase i) (slice_index_or starts i s).pass

-- The same pass after so many of the lane's calls, of which some were made and added these entries. They stand behind all that it knew.
pub record IsDone (t : TableId) (seen : ℕ) (at : Place) (count made : ℕ) (h : List Entry) (p : Pass) : Type 0 where
  pub seated : IsSeated t p
  pub numbers : (book p).numbers ≡ 1
  pub fresh : (book p).fresh ≡ 0
  pub ticks : (book p).ticks ≤ count * 1000000
  pub on : seen ≤ (book p).seen
  pub entries : (book p).entries ≡ reverse h
  pub stand_behind : (e : Entry) → In e (book p).entries → IsBehind seen e
  pub known : (e : Entry) → In e (book p).entries → e.stamp.at ≤ (book p).seen
  pub next : MayGoOn (behind at made) (book p)
  pub others : (r : ℕ) → r ≢ suc at.lane → lookup (book p).regions r ≡ none

-- a lane's calls were made from the first on, and added entries to its pass
pub record HasEnded (t : TableId) (seen phase lane : ℕ) (calls : List Known) (end : Lane × Pass) : Type 0 where
  pub history : List Entry
  pub before : ℕ
  pub pass : IsDone t seen (first_of phase lane) (length calls) end.0.made history end.1
  pub made : HasMade (first_of phase lane) before calls history end.0
  pub used : end.0.used ≡ used_of (book end.1) lane

-- each lane of a phase has ended, or there was no memory for it
pub record HaveEnded (t : TableId) (seen phase : ℕ) (lanes : Phase) (ends : List (Result (Lane × Pass) AllocError)) : Type 0 where
  pub len : length ends ≡ length lanes
  pub each : (i : ℕ) (e : Result (Lane × Pass) AllocError) → i < length ends
      → IfOk (slice_index_or ends i e) (HasEnded t seen phase i (slice_index_or lanes i []))

-- a pass with the book b, after so many lanes' passes were split off from it
pub record IsSplit (t : TableId) (b : Book) (count : ℕ) (p : Pass) : Type 0 where
  pub seated : IsSeated t p
  pub numbers : (book p).numbers + count ≡ b.numbers
  pub fresh : (book p).fresh + count ≡ b.fresh
  pub ticks : (book p).ticks ≡ b.ticks
  pub seen : (book p).seen ≡ b.seen
  pub entries : (book p).entries ≡ b.entries
  pub gone : (lane : ℕ) → lane < count → lookup (book p).regions (suc lane) ≡ none
  pub kept : (lane : ℕ) → count ≤ lane → lookup (book p).regions (suc lane) ≡ lookup b.regions (suc lane)

-- The lanes of a phase have ended, and the passes of those that had memory may be joined to one from which they were split off.
pub record AreEnding (t : TableId) (b : Book) (phase : ℕ) (lanes : Phase) (ends : List (Result (Lane × Pass) AllocError)) (p : Pass) : Type 0 where
  pub room : HasRoom (call_count lanes) b
  pub split : IsSplit t b (length ends) p
  pub ended : HaveEnded t b.seen phase lanes ends

-- The same pass, to which those of the first so many of these lanes were joined after so many calls, with what is kept of them. The entries that they
-- added stand behind all that b knew.
pub record IsJoining (t : TableId) (b : Book) (phase all calls : ℕ) (lanes : Phase) (placed : List Record) (parts : List Part) (p : Pass) : Type 0 where
  pub seated : IsSeated t p
  pub numbers : (book p).numbers + all ≡ b.numbers + length lanes
  pub fresh : b.fresh ≤ (book p).fresh + all
  pub few : (book p).fresh ≤ b.fresh
  pub ticks : (book p).ticks ≤ b.ticks + calls * 1000000
  pub on : b.seen ≤ (book p).seen
  pub since : List Entry
  pub entries : (book p).entries ≡ b.entries ++ since
  pub gathered : IsGathered phase lanes since placed parts
  pub stand_behind : (e : Entry) → In e since → IsBehind b.seen e
  pub known : (e : Entry) → In e since → e.stamp.at ≤ (book p).seen
  pub back : (lane : ℕ) → lane < length lanes → MayGoOn (behind (first_of phase lane) (slice_index_or (made_counts parts) lane 0)) (book p)
  pub used : (lane : ℕ) (d : Part) → lane < length lanes → (slice_index_or parts lane d).used ≡ used_of (book p) lane
  pub gone : (lane : ℕ) → length lanes ≤ lane → lane < all → lookup (book p).regions (suc lane) ≡ none
  pub kept : (lane : ℕ) → all ≤ lane → lookup (book p).regions (suc lane) ≡ lookup b.regions (suc lane)

-- Of a phase that began with a pass that had the book b the lanes' passes are back, and this is kept of their calls. What is left may be made.
pub record IsMidway (t : TableId) (b : Book) (phase : ℕ) (lanes : Phase) (side : Side) (p : Pass) : Type 0 where
  pub numbers : b.numbers ≡ 1048576
  pub room : HasRoom (call_count lanes) b
  pub begins : (lane : ℕ) → lane < 16 → MayGoOn (first_of phase lane) b
  pub joining : IsJoining t b phase (length lanes) (call_count lanes) lanes side.placed.items side.parts.items p

-- A pass with every number and the book b, after so many calls of these lanes, each from a place on, with what is kept of them. The calls of
-- lanes behind these may go on as with b, and those of later phases may begin.
pub record IsResting (t : TableId) (b : Book) (phase calls : ℕ) (lanes : Phase) (firsts : List ℕ) (placed : List Record) (parts : List Part) (p : Pass) : Type 0 where
  pub seated : IsSeated t p
  pub numbers : (book p).numbers ≡ b.numbers
  pub fresh : (book p).fresh ≡ b.fresh
  pub ticks : (book p).ticks ≤ b.ticks + calls * 1000000
  pub on : b.seen ≤ (book p).seen
  pub since : List Entry
  pub entries : (book p).entries ≡ since ++ b.entries
  pub over : IsMadeOver phase lanes firsts since placed parts
  pub stand_behind : (e : Entry) → In e since → IsBehind b.seen e
  pub known : (e : Entry) → In e since → e.stamp.at ≤ (book p).seen
  pub waits : (lane : ℕ) → length lanes ≤ lane → lookup (book p).regions (suc lane) ≡ lookup b.regions (suc lane)
  pub later : (lane : ℕ) → lane < 16 → MayGoOn (first_of (suc phase) lane) (book p)
