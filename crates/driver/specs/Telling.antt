-- What the gates of a run are told, lane by lane.
use Rattle.std.specs.Prelude.{◌≡◌, ◌≤◌, ◌<◌, ◌⊎◌, ℕ, suc, List, [], ◌++◌, length, map, filter, nat_eq, Bool, Option, Some, None, Result, Ok, Err, slice_get, slice_index_or, All, AllPairs, IsPermutation, IfOk}
use Rattle.std.specs.Global.{Global}
use Rattle.std.specs.declared.vec.Vec.{Vec}
use Rattle.std.specs.declared.alloc.AllocError.{AllocError}
use Rattle.jmodel.specs.history.Schedule.{Known, Phase, ScriptPhase, Lanes, Bag}
use Rattle.objects.specs.declared.event.Event.{Event}
use Rattle.objects.specs.semantics.Program.{Program}
use Rattle.objects.specs.rewriting.Attempt.{Bounds}
use Rattle.objects.specs.rewriting.Events.{Grows}
use Rattle.machine.specs.declared.machine.Limits.{Limits as CallLimits}
use Rattle.claims.specs.declared.bag.BagPass.{BagPass}
use Rattle.session.specs.declared.record.Record.{Record}
use Rattle.session.specs.declared.record.Lane.{Lane}
use Rattle.session.specs.declared.claimed.Taken.{Taken}
use Rattle.tx_table.specs.declared.shared.Pass.{Pass}
use Rattle.session.specs.Claimed.{calls_at}
use Rattle.session.specs.Telling.{IsRecordOf, HasTold}
use Rattle.driver.specs.declared.memory.Limits.{Limits}
use Rattle.driver.specs.Passing.{used_of, first_of, IsOfOne, HasEnded}
use Rattle.driver.specs.declared.table.Start.{Start}
use Rattle.driver.specs.declared.workers.Worker.{Worker}
use Rattle.driver.specs.Workers.{MayClaim, HasWorked}
use Rattle.claims.specs.declared.bag.Bag.{Bag as ABag}
use Rattle.tx_table.specs.Passes.{book}
use Rattle.atomic_table.specs.Seated.{TableId}

-- the bounds of a lane's calls; the words that are used before a call vary
abbrev pub lane_bounds : Limits → ℕ → Bounds
lane_bounds limits lane = record { budget = limits.budget; attempts = limits.attempts; region = record { number = suc lane; size = limits.size }; used = 0 }

-- the limits of a lane's calls, before which so many words of its region are used
abbrev pub lane_limits : Limits → ℕ → ℕ → CallLimits
lane_limits limits lane used = record { budget = limits.budget; attempts = limits.attempts; room = record { region = suc lane; size = limits.size; used = used } }

abbrev pub is_of_lane : ℕ → Record → Bool
is_of_lane lane r = nat_eq r.lane lane

-- the call that a phase has at a record's place: of a lane by its index there, of a bag by its index in the bag
abbrev pub IsCallIn : ScriptPhase → Record → Known → Type 0
IsCallIn (Lanes ls) r c = slice_get (slice_index_or ls r.lane []) r.index ≡ Some c
IsCallIn (Bag lanes cs) r c = slice_get cs r.index ≡ Some c

-- the record is of this call, which stands in a phase
abbrev pub IsCallAt : ℕ → ScriptPhase → Record → Known → Type 0
IsCallAt phase p r c = (r.phase ≡ phase) × IsCallIn p r c

-- the record is of this call of a script
abbrev pub IsCallOfScript : List ScriptPhase → Record → Known → Type 0
IsCallOfScript phases r c = (p : ScriptPhase) × (slice_get phases r.phase ≡ Some p) × IsCallIn p r c

-- how many lanes a phase has
abbrev pub lanes_in : ScriptPhase → ℕ
lanes_in (Lanes ls) = length ls
lanes_in (Bag lanes cs) = lanes

-- what is kept of a lane's calls that have a place in the history
abbrev pub kept_of : Result (Lane × Pass) AllocError → List Record
kept_of (Ok e) = e.0.placed.items
kept_of (Err x) = []

-- the lanes of a phase by number, each with a pass of its own, and a gate
abbrev pub AreBegun : {G : Type 0} → TableId → ℕ → ℕ → List (Start × G) → Type 0
AreBegun t seen phase begun = (i : ℕ) (b : Start × _) → i < length begun
    → ((slice_index_or begun i b).0.lane ≡ i) × ((slice_index_or begun i b).0.used ≡ used_of (book (slice_index_or begun i b).0.pass) i)
    × IsOfOne t seen (first_of phase i) (slice_index_or begun i b).0.pass

-- A lane's calls were made from the first on, and the lane's gate was told their events. `told` is what a gate tells, and `before` what this one told before.
abbrev pub HasRunLane : {G : Type 0} → (G → Option (List Event)) → Program → Limits → TableId → ℕ → ℕ → ℕ → List Known → Option (List Event) → (Lane × Pass) × G → Type 0
HasRunLane told Q limits t seen phase lane calls before r =
    HasEnded t seen phase lane calls r.0 × HasTold Q (lane_bounds limits lane) (IsRecordOf (first_of phase lane) calls) r.0.0.placed.items (Grows before (told r.1))

-- each lane has run, with its gate, or there was no memory for it
pub record HaveRunLanes {G : Type 0} (told : G → Option (List Event)) (Q : Program) (limits : Limits) (t : TableId) (seen phase : ℕ) (lanes : Phase) (begun : List (Start × G))
    (ends : List (Result ((Lane × Pass) × G) AllocError)) : Type 0 where
  pub len : length ends ≡ length begun
  pub each : (i : ℕ) (e : Result ((Lane × Pass) × G) AllocError) (b : Start × G) → i < length ends
      → IfOk (slice_index_or ends i e) (HasRunLane told Q limits t seen phase i (slice_index_or lanes i []) (told (slice_index_or begun i b).1))

-- Each lane's gate was told the events of the lane's calls, of which these are kept lane by lane; other gates were told nothing. Gates tell so much before
-- and after.
pub record HaveTold (Q : Program) (limits : Limits) (phase : ℕ) (lanes : Phase) (kept : List (List Record)) (before after : List (Option (List Event))) : Type 0 where
  pub len : length after ≡ length before
  pub each : (lane : ℕ) → lane < length kept
      → HasTold Q (lane_bounds limits lane) (IsRecordOf (first_of phase lane) (slice_index_or lanes lane [])) (slice_index_or kept lane []) (Grows (slice_index_or before lane None) (slice_index_or after lane None))
  pub others : (lane : ℕ) → length kept ≤ lane → slice_index_or after lane None ≡ slice_index_or before lane None

-- the workers of a bag of n by number, each with a pass and claims of its own, and a gate
abbrev pub AreWorkersBegun : {G : Type 0} → TableId → ℕ → ℕ → ABag → ℕ → List (Worker × G) → Type 0
AreWorkersBegun t seen phase b n begun = (i : ℕ) (w : Worker × _) → i < length begun
    → ((slice_index_or begun i w).0.start.lane ≡ i) × ((slice_index_or begun i w).0.start.used ≡ used_of (book (slice_index_or begun i w).0.start.pass) i)
    × IsOfOne t seen (first_of phase i) (slice_index_or begun i w).0.start.pass
    × MayClaim b n (slice_index_or begun i w).0.claims

-- a worker's calls were claimed and made, and its gate was told their events
abbrev pub HasRunWorker : {G : Type 0} → (G → Option (List Event)) → Program → Limits → TableId → ℕ → ABag → ℕ → ℕ → List Known → Option (List Event) → (Taken × BagPass) × G → Type 0
HasRunWorker told Q limits t seen b phase lane calls before r =
    HasWorked t seen b phase lane calls r.0
    × HasTold Q (lane_bounds limits lane) (IsRecordOf (first_of phase lane) (calls_at calls r.0.0.indexes.items)) r.0.0.lane.placed.items (Grows before (told r.1))

-- each worker has run, with its gate, or there was no memory for it
pub record HaveRunWorkers {G : Type 0} (told : G → Option (List Event)) (Q : Program) (limits : Limits) (t : TableId) (seen : ℕ) (b : ABag) (phase : ℕ) (calls : List Known)
    (begun : List (Worker × G)) (ends : List (Result ((Taken × BagPass) × G) AllocError)) : Type 0 where
  pub len : length ends ≡ length begun
  pub each : (i : ℕ) (e : Result ((Taken × BagPass) × G) AllocError) (w : Worker × G) → i < length ends
      → IfOk (slice_index_or ends i e) (HasRunWorker told Q limits t seen b phase i calls (told (slice_index_or begun i w).1))

-- the same of the calls that workers claimed of a bag
pub record HaveToldClaimed (Q : Program) (limits : Limits) (phase : ℕ) (calls : List Known) (ends : List (Result (Taken × BagPass) AllocError)) (before after : List (Option (List Event))) : Type 0 where
  pub len : length after ≡ length before
  pub each : (lane : ℕ) (e : Result (Taken × BagPass) AllocError) → lane < length ends
      → IfOk (slice_index_or ends lane e) (λ r. HasTold Q (lane_bounds limits lane) (IsRecordOf (first_of phase lane) (calls_at calls r.0.indexes.items)) r.0.lane.placed.items
      (Grows (slice_index_or before lane None) (slice_index_or after lane None)))
  pub others : (lane : ℕ) → length ends ≤ lane → slice_index_or after lane None ≡ slice_index_or before lane None

-- how workers ended, sorted into how their lanes did and what they took
pub record AreSorted (ends : List (Result (Taken × BagPass) AllocError)) (lanes : List (Result (Lane × Pass) AllocError)) (taken : List (Vec ℕ Global)) : Type 0 where
  pub tooks : List (Taken × BagPass)
  pub ends_are : ends ≡ map Ok tooks
  pub lanes_are : lanes ≡ map (λ t. Ok (t.0.lane, t.0.pass)) tooks
  pub taken_are : taken ≡ map (λ t. t.0.indexes) tooks

-- Each gate was told the events of its lane's calls among those that these records are of, in their order. C says which call a record is of. The gates of
-- lanes beyond so many were told nothing.
pub record AreTold (Q : Program) (limits : Limits) (C : Record → Known → Type 0) (count : ℕ) (made : List Record) (before after : List (Option (List Event))) : Type 0 where
  pub len : length after ≡ length before
  pub each : (lane : ℕ) → HasTold Q (lane_bounds limits lane) C (filter (is_of_lane lane) made) (Grows (slice_index_or before lane None) (slice_index_or after lane None))
  pub others : (lane : ℕ) → count ≤ lane → slice_index_or after lane None ≡ slice_index_or before lane None

-- A journal grew by the placed calls of a phase. In the order in which they were made, each lane's by their indexes, the lanes' gates were told of them.
pub record TellsPhase (Q : Program) (limits : Limits) (phase : ℕ) (p : ScriptPhase) (old new : List Record) (before after : List (Option (List Event))) : Type 0 where
  pub made : List Record
  pub more : List Record
  pub added : new ≡ old ++ more
  pub same : IsPermutation made more
  pub told : AreTold Q limits (IsCallAt phase p) (lanes_in p) made before after
  pub ascends : (lane : ℕ) → AllPairs (λ r s. r.index < s.index) (filter (is_of_lane lane) made)

-- of two records, the first is of an earlier phase, or stands before the other by its index
abbrev pub Precedes : Record → Record → Type 0
Precedes r s = (r.phase < s.phase) ⊎ ((r.phase ≡ s.phase) × (r.index < s.index))

-- What the gates were told of a run whose placed calls these records are of: each gate the events of its lane's calls, each call's in one piece, in the
-- order of phases and indexes. The gates of lanes that no phase has were told nothing.
pub record TellsScript (Q : Program) (limits : Limits) (phases : List ScriptPhase) (placed : List Record) (before after : List (Option (List Event))) : Type 0 where
  pub made : List Record
  pub same : IsPermutation made placed
  pub len : length after ≡ length before
  pub each : (lane : ℕ) → HasTold Q (lane_bounds limits lane) (IsCallOfScript phases) (filter (is_of_lane lane) made) (Grows (slice_index_or before lane None) (slice_index_or after lane None))
  pub ascends : (lane : ℕ) → AllPairs Precedes (filter (is_of_lane lane) made)
  pub others : (lane : ℕ) → All (λ p. lanes_in p ≤ lane) phases → slice_index_or after lane None ≡ slice_index_or before lane None
