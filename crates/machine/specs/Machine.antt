-- What a call of the machine adds to the history.
use Rattle.std.specs.Prelude.{◌≡◌, ◌≢◌, ℕ, ◌+◌, ◌-◌, ◌≤◌, List, [], ◌∷◌, ◌++◌, Result, Ok, Err, false}
use Rattle.jmodel.specs.declared.value.Answer.{Answer}
use Rattle.jmodel.specs.declared.value.Answer.TheVariants.{Spent, NoMemory}
use Rattle.jmodel.specs.declared.value.Stamp.{Stamp}
use Rattle.objects.specs.semantics.Program.{Program}
use Rattle.objects.specs.semantics.Region.{Region}
use Rattle.objects.specs.rewriting.Attempt.{Log, Bounds, Meter, Run, Ended, Stuck, Comes, run_start, Runs}
use Rattle.jmodel.specs.history.History.{Call, Entry, made}
use Rattle.machine.specs.declared.room.Room.{Room}
use Rattle.machine.specs.declared.machine.Limits.{Limits}
use Rattle.machine.specs.declared.machine.End.{End}
use Rattle.machine.specs.declared.machine.Stuck.{Stuck as IsStuck}
use Rattle.tx_core.specs.Engine.{IsAllowed, IsOfWrites}

-- the region of a room
abbrev pub region_of : Room → Region
region_of m = record { number = m.region; size = m.size }

abbrev pub bounds_of : Limits → Bounds
bounds_of l = record { budget = l.budget; attempts = l.attempts; region = region_of l.room; used = l.room.used }

-- the stamp of a call that adds no entry
abbrev pub unplaced : Stamp
unplaced = record { at = 0; update = false }

-- each entry that the call may leave may be committed
abbrev pub MayRun : (Entry → Type 0) → Program → Bounds → Call → Type 0
MayRun allows P B c = (x : Answer) (used : ℕ) (stamp : Stamp) (r w : Log) → Runs P B c.method c.args x used w r → allows (made c x B.used used stamp r w)

-- A call that runs from `start` may come next: each entry that it may leave may be committed.
pub record MayStart (P : Program) (B : Bounds) (start : Run) (allows : Entry → Type 0) (S : List Entry → ℕ → Log → Log → Type 0) (A : Call → ℕ → Type 0) : Type 0 where
  pub history : List Entry
  pub conflicts : ℕ
  pub call : Call
  pub stands : S history conflicts [] []
  pub awaits : A call B.used
  pub allowed : (x : Answer) (M : Meter) (r w : Log) → x ≢ Spent → Comes P B start (Ended x M w r) → IsAllowed allows x call B.used M.used r w

-- One entry more, of a run that ended so. Conflicts may have come before it, one for each attempt of the run but the last.
pub record AddsEntry (P : Program) (B : Bounds) (c : Call) (S : List Entry → ℕ → Log → Log → Type 0) (h : List Entry) (n : ℕ) (e : End) : Type 0 where
  pub conflicts : ℕ
  pub later : n ≤ conflicts
  pub reads : Log
  pub writes : Log
  pub runs : Runs P B c.method c.args e.answer e.used writes reads
  pub tries : n + runs.meter.tried ≡ conflicts + 1
  pub stamped : IsOfWrites e.stamp writes
  pub stands : S (h ++ made c e.answer B.used e.used e.stamp reads writes ∷ []) conflicts [] []

-- a call that added no entry took no words
pub record IsUnplaced (B : Bounds) (e : End) : Type 0 where
  pub unstamped : e.stamp ≡ unplaced
  pub unused : e.used ≡ B.used

-- No entry more. Each attempt that there may be ended on a conflict.
pub record IsSpent (P : Program) (B : Bounds) (c : Call) (S : ℕ → Log → Log → Type 0) (n : ℕ) (e : End) : Type 0 where
  pub meter : Meter
  pub comes : Comes P B (run_start P B c.method c.args) (Ended Spent meter [] [])
  pub stands : S (n + meter.tried) [] []
  pub unplaced : IsUnplaced B e

-- no entry more
pub record AddsNone (S : ℕ → Log → Log → Type 0) (n : ℕ) : Type 0 where
  pub conflicts : ℕ
  pub later : n ≤ conflicts
  pub stands : S conflicts [] []

-- what a call adds to the history h after n conflicts, by its answer; S says what the engine stands for then
abbrev pub AddsBy : Answer → Program → Bounds → Call → (List Entry → ℕ → Log → Log → Type 0) → List Entry → ℕ → End → Type 0
AddsBy Spent P B c S h n e = IsSpent P B c (S h) n e
AddsBy NoMemory P B c S h n e = AddsNone (S h) n × IsUnplaced B e
AddsBy x P B c S h n e = AddsEntry P B c S h n e

-- what a call adds to the history
abbrev pub AddsRun : Program → Bounds → Call → (List Entry → ℕ → Log → Log → Type 0) → List Entry → ℕ → Result End IsStuck → Type 0
AddsRun P B c S h n (Ok e) = AddsBy e.answer P B c S h n e
AddsRun P B c S h n (Err e) = AddsNone (S h) n × ((r : Log) × Comes P B (run_start P B c.method c.args) (Stuck r))

-- so many attempts were begun
abbrev pub Begins : (ℕ → Type 0) → (ℕ → Type 0) → ℕ → Type 0
Begins A A' n = (k : ℕ) → A k → A' (k + n)

-- So many attempts were begun after k: one for each conflict since n, and so many more.
pub record HasTried (S : List Entry → ℕ → Log → Log → Type 0) (A : ℕ → Type 0) (n k more : ℕ) : Type 0 where
  pub history : List Entry
  pub conflicts : ℕ
  pub later : n ≤ conflicts
  pub stands : S history conflicts [] []
  pub begun : A (k + (conflicts - n) + more)

-- The attempts of a call are those that met a conflict, and the one that ended as an entry.
abbrev pub TriesBy : Answer → (List Entry → ℕ → Log → Log → Type 0) → (ℕ → Type 0) → ℕ → ℕ → Type 0
TriesBy Spent S A n k = HasTried S A n k 0
TriesBy NoMemory S A n k = Unit {0}
TriesBy x S A n k = HasTried S A n k 1

-- nothing is said where the code isn't well formed
abbrev pub TriesRun : (List Entry → ℕ → Log → Log → Type 0) → (ℕ → Type 0) → ℕ → ℕ → Result End IsStuck → Type 0
TriesRun S A n k (Ok e) = TriesBy e.answer S A n k
TriesRun S A n k (Err e) = Unit {0}
