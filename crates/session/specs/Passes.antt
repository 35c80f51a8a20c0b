-- The pass of a lane over a table of shared words.
use Rattle.std.specs.Prelude.{◌≡◌, ◌⊎◌, ◌<◌, ◌≤◌, ◌+◌, ◌*◌, ◌^◌, ℕ, suc, List, [], length, reverse, slice_index_or}
use mathlib.Core.Option.{Option, some}
use Rattle.atomic_table.specs.Seated.{TableId}
use Rattle.objects.specs.semantics.Program.{Program}
use Rattle.objects.specs.rewriting.Attempt.{Bounds}
use Rattle.jmodel.specs.history.History.{Call, Entry}
use Rattle.jmodel.specs.history.Schedule.{Known, call_at}
use Rattle.tx_table.specs.Book.{Book, Unticked, lookup}
use Rattle.tx_table.specs.Rule.{Succeeds}
use Rattle.tx_table.specs.declared.shared.Pass.{Pass}
use Rattle.tx_table.specs.Passes.{book, IsOf}
use Rattle.tl2.specs.Standing.{IsSince}
use Rattle.machine.specs.declared.machine.Limits.{Limits}
use Rattle.machine.specs.Machine.{bounds_of}
use Rattle.session.specs.declared.record.Place.{Place}
use Rattle.session.specs.Adds.{IsUsedUp}

-- a pass outside an attempt
pub record IsSeated (t : TableId) (p : Pass) : Type 0 where
  pub table : IsOf t p
  pub held : (book p).face.held ≡ []
  pub stage : (book p).face.stage ≡ Unticked

-- the calls of a lane from a place on, and those of later phases, may come after the last one of a region
abbrev pub MayFollow : Place → Option Call → Type 0
MayFollow at last = (phase index : ℕ) (c : Known) → (at.phase < phase) ⊎ ((at.phase ≡ phase) × (at.first ≤ index)) → Succeeds (call_at phase at.lane index c) last

-- A pass with this book has a lane's region, of which so many words are used, and the lane's calls from a place on may come next in it.
pub record MayBegin (at : Place) (used : ℕ) (b : Book) : Type 0 where
  pub last : Option Call
  pub region : lookup b.regions (suc at.lane) ≡ some (record { used = used; last = last })
  pub follows : MayFollow at last

-- a pass that so many calls of a lane may begin with, from a place on and with so many words used, and which has moved the clock seldom enough
pub record IsStarting (t : TableId) (at : Place) (used count : ℕ) (p : Pass) : Type 0 where
  pub seated : IsSeated t p
  pub begins : MayBegin at used (book p)
  pub ticks : (book p).ticks + count * 1000000 ≤ 2 ^ 40

-- the place behind so many calls
abbrev pub behind : Place → ℕ → Place
behind at n = record at { first = at.first + n }

-- The pass after so many calls of a lane, of which some were made. They added these entries since its book was b, and left so many words of the
-- lane's region used. The lane's calls behind those may begin with it.
pub record IsEnding (t : TableId) (b : Book) (at : Place) (count made used : ℕ) (h : List Entry) (p : Pass) : Type 0 where
  pub seated : IsSeated t p
  pub since : IsSince b (book p)
  pub entries : since.made ≡ reverse h
  pub next : MayBegin (behind at made) used (book p)
  pub ticks : (book p).ticks ≤ b.ticks + count * 1000000

-- the limits of a call before which so many words of the region are used
abbrev pub limits_with : Limits → ℕ → Limits
limits_with limits used = record limits { room = record limits.room { used = used } }

abbrev pub bounds_with : Limits → ℕ → Bounds
bounds_with limits used = bounds_of (limits_with limits used)

-- Of a lane's calls of P, by its rewriting Q, so many were made, which left so many words of the region used. The attempts of the next one are used up.
-- Each of those attempts met a conflict since the pass had the book b.
pub record HasSpent (P Q : Program) (limits : Limits) (calls : List Known) (made used : ℕ) (b : Book) (p : Pass) : Type 0 where
  pub call : Known
  pub left : made < length calls
  pub next : call ≡ slice_index_or calls made call
  pub tried : ℕ
  pub used_up : IsUsedUp P Q (bounds_with limits used) call.method call.args tried
  pub lost : length b.lost + tried ≤ length (book p).lost
