-- A call on its way, as a run of the definitions over an engine.
use Rattle.std.specs.Prelude.{◌≡◌, ◌⊎◌, ℕ, ◌+◌, ◌≤◌, Bool, List, [], ◌∷◌, ◌++◌, Result, Ok, Err, Option, Some, None}
use Rattle.jmodel.specs.declared.value.Value.{Value}
use Rattle.jmodel.specs.declared.value.Answer.{Answer}
use Rattle.jmodel.specs.declared.value.Answer.TheVariants as answer
use Rattle.objects.specs.declared.op.Phase.{Phase}
use Rattle.objects.specs.declared.op.Phase.TheVariants as phase
use Rattle.objects.specs.declared.event.Event.{Event}
use Rattle.objects.specs.declared.event.Event.TheVariants as event
use Rattle.objects.specs.declared.op.Doing.{Doing}
use Rattle.objects.specs.declared.op.Doing.TheVariants as doing
use Rattle.objects.specs.semantics.Program.{Row, Program, is_counted, row_at}
use Rattle.objects.specs.semantics.Step.{Frame, Frames, step, jumps, unwinds, resumed, at as at_place}
use Rattle.objects.specs.semantics.State.{words_of, header, object_of}
use Rattle.objects.specs.declared.op.Asking.{Asking as Wanted}
use Rattle.objects.specs.declared.op.Asking.TheVariants.{Head}
use Rattle.objects.specs.declared.op.Made.{Made}
use Rattle.objects.specs.declared.op.Made.TheVariants.{Pushed, Raised}
use Rattle.objects.specs.declared.op.Slot.TheVariants as slot
use Rattle.objects.specs.rewriting.Attempt.{Thrown as ThrownAs, Log, Bounds, Meter, Run, On, Asking, Ended, Stuck, Reply, Gives, Refuses, set_back, on_asked, on_asking, on_commit, on_thrown, meter_thrown, next_run, run, Comes, run_start}
use Rattle.objects.specs.rewriting.Events.{AreOfAsking, AreOfStep, AreOfRun, AreOpen}
use Rattle.objects.specs.semantics.Traps.{IsOpen}
use Rattle.jmodel.specs.history.History.{Call, Entry, Words, made}
use Rattle.machine.specs.declared.failure.Failure.{Failure}
use Rattle.machine.specs.declared.failure.Failure.TheVariants as failure
use Rattle.machine.specs.declared.plain.Flow.{Flow}
use Rattle.machine.specs.declared.plain.Flow.TheVariants as flow
use Rattle.machine.specs.declared.plain.Outcome.{Outcome}
use Rattle.machine.specs.declared.plain.Outcome.TheVariants as outcome
use Rattle.machine.specs.declared.running.Stage.{Stage}
use Rattle.machine.specs.declared.running.Stage.TheVariants.{Ready, Open, Doomed}
use Rattle.machine.specs.declared.running.Todo.{Todo}
use Rattle.machine.specs.declared.running.Todo.TheVariants.{Commit, Refuse, Spent}
use Rattle.machine.specs.declared.running.Limit.{Limit}
use Rattle.machine.specs.declared.running.Limit.TheVariants as limit
use Rattle.machine.specs.declared.room.Thrown.{Thrown}
use Rattle.machine.specs.declared.running.Running.{Running}
use Rattle.machine.specs.declared.machine.End.{End}
use Rattle.machine.specs.Machine.{IsUnplaced}
use Rattle.machine.specs.Meets.{IsDone, with_int}
use Rattle.machine.specs.Telling.{TellsNone}
use Rattle.tx_core.specs.Engine.{IsAllowed, IsOfWrites, IsSnapshot, LeadsTo}
use Rattle.machine.specs.declared.make.Fresh.{Fresh}

abbrev pub phase_of : Stage → Phase
phase_of Ready = phase.Ready
phase_of Open = phase.Open
phase_of Doomed = phase.Doomed

abbrev pub frames : Running → Frames
frames a = a.frame ∷ a.callers

abbrev pub thrown_of : Option Thrown → Option ThrownAs
thrown_of None = None
thrown_of (Some t) = Some (record { reference = t.reference; type = t.of })

abbrev pub meter : Running → Meter
meter a = record { turns = a.turns; tried = a.tried; used = a.used; thrown = thrown_of a.thrown }

abbrev pub at : Running → Log → Log → Run
at a w r = On (phase_of a.stage) (frames a) (meter a) w r

-- attempts that have neither ended nor met a conflict
abbrev pub opened : Stage → ℕ
opened Open = 1
opened s = 0

-- nothing was read or written outside an attempt
abbrev pub IsIdle : Stage → Log → Log → Type 0
IsIdle Ready r w = (r ≡ []) × (w ≡ [])
IsIdle s r w = Unit {0}

-- What is known of reads: they are a snapshot, if entries are added by others, or the history leads to the used words of the call.
abbrev pub Saw : Type 0 → (Words → (ℕ → ℕ) → Type 0) → (Entry → Type 0) → List Entry → Call → ℕ → Log → Type 0
Saw shared begins allows h c used r = shared ⊎ ((first : Words) (opened : ℕ → ℕ) → begins first opened → LeadsTo opened h c used) → IsSnapshot begins allows c used r

-- nothing is known of the first attempt's reads before it began
abbrev pub Knew : (Log → Type 0) → Stage → ℕ → Log → Type 0
Knew K s tried r = ((s ≡ Ready) × (tried ≡ 0)) ⊎ K r

-- What is known of the engine, and by K of the reads. A call that began at n conflicts has tried once for each one more, and once for an open attempt.
pub record Holds (S : ℕ → Log → Log → Type 0) (K : Log → Type 0) (n : ℕ) (s : Stage) (tried : ℕ) (r w : Log) : Type 0 where
  pub conflicts : ℕ
  pub later : n ≤ conflicts
  pub stands : S conflicts r w
  pub tries : n + tried ≡ conflicts + opened s
  pub idle : IsIdle s r w
  pub knew : Knew K s tried r

-- what an error leaves: an attempt may be open
pub record Leaves (S : ℕ → Log → Log → Type 0) (n : ℕ) (s : Stage) : Type 0 where
  pub conflicts : ℕ
  pub reads : Log
  pub writes : Log
  pub later : n ≤ conflicts
  pub stands : S conflicts reads writes
  pub idle : IsIdle s reads writes

-- The clock is raised once an attempt at most.
pub record IsWithin (first attempts clock : ℕ) (s : Stage) (tried : ℕ) : Type 0 where
  pub clock_below : clock + opened s ≤ first + tried
  pub tried_below : tried ≤ attempts

-- From a stage, with so many attempts begun, to another: no attempt was both begun and lost on the way.
abbrev pub Moves : Stage → ℕ → Stage → ℕ → Type 0
Moves Ready t Ready u = u ≡ t
Moves Ready t Open u = u ≡ t + 1
Moves Open t Open u = u ≡ t
Moves Open t Doomed u = u ≡ t
Moves Doomed t Doomed u = u ≡ t
Moves Doomed t Ready u = u ≡ t
Moves s t z u = ⊥

-- the answer of an attempt that passes a limit, with so many words used of a region of this size
abbrev pub refusal : Limit → ℕ → ℕ → Answer
refusal limit.Budget used size = answer.Budget
refusal limit.Depth used size = answer.Depth
refusal (limit.Heap wanted) used size = answer.Heap used wanted size

-- what the state and an answer stand for
abbrev pub land : Bounds → Running → Log → Log → Result Todo Failure → Run
land B a w r (Ok (Refuse l)) = Ended (refusal l a.used B.region.size) (set_back B (meter a)) [] r
land B a w r (Ok Spent) = Ended answer.Spent (meter a) [] []
land B a w r (Ok t) = at a w r
land B a w r (Err e) = Stuck r

-- memory may be short
abbrev pub Lands : Bounds → Run → Running → Log → Log → Result Todo Failure → Type 0
Lands B x a w r (Err failure.NoMemory) = Unit {0}
Lands B x a w r (Ok Commit) = ⊥
Lands B x a w r result = x ≡ land B a w r result

-- a run from c comes to d, and tells these events on its way
abbrev pub Way : Program → Bounds → Run → List Event → Run → Type 0
Way P B c es d = (vs : List Reply) × (run P B vs c ≡ d) × AreOfRun P B vs c es

-- K is known of what an attempt has read by each step of a run at which it is open
abbrev pub Knows : Program → Bounds → (Log → Type 0) → List Reply → Run → Type 0
Knows P B K [] c = (r : Log) → IsOpen r c → K r
Knows P B K (v ∷ vs) c = ((r : Log) → IsOpen r c → K r) × Knows P B K vs (next_run P B v c)

-- what a gate was told of a step: events that are of it by D, and no entry
abbrev pub Told : (List Event → Type 0) → (List Event → Type 0) → Type 0
Told D T = (es : List Event) × D es × AreOpen es × T es

-- A turn of the machine: f is the next run by the engine's reply, D its events by the reply, T what the gate was told, and H what holds after it.
abbrev pub IsTurn : Bounds → (Reply → Run) → (Reply → List Event → Type 0) → (List Event → Type 0) → (Log → Log → Type 0) → Running → Result Todo Failure → Type 0
IsTurn B f D T H a (Err failure.NoMemory) = (r : Log) × (w : Log) × H r w × TellsNone T
IsTurn B f D T H a (Ok Commit) = (r : Log) × (w : Log) × H r w × ((v : Reply) → f v ≡ on_commit B v (frames a) (meter a) w r) × (((v : Reply) → D v []) × T [])
IsTurn B f D T H a result = (r : Log) × (w : Log) × H r w × ((v : Reply) × (f v ≡ land B a w r result) × Told (D v) T)

-- a run that waits for this to be served
abbrev pub Waits : Program → Bounds → Wanted → Running → Log → Log → Run → Type 0
Waits P B asking a w r c = ((v : Reply) → next_run P B v c ≡ on_asking P B asking (phase_of a.stage) v (frames a) (meter a) w r)
    × ((v : Reply) (es : List Event) → AreOfAsking P B asking (phase_of a.stage) v (meter a) es → AreOfStep P B v c es)

-- Where an instruction stands whose header was read: it goes on, or asks for more.
abbrev pub goes_on : Running → Log → Log → Option Wanted → Run
goes_on a w r None = at a w r
goes_on a w r (Some asking) = Asking asking (frames a) (meter a) w r

-- the reading of a header: f is the next run by the engine's reply, D its events by the reply, T what the gate was told, and H what holds after it
abbrev pub IsHeaded : (Reply → Run) → (Reply → List Event → Type 0) → (List Event → Type 0) → (Log → Log → Type 0) → Running → Result (Option Wanted) Failure → Type 0
IsHeaded f D T H a (Ok next) = (r : Log) × (w : Log) × H r w × ((v : Reply) × (f v ≡ goes_on a w r next) × Told (D v) T)
IsHeaded f D T H a (Err failure.Wrong) = (r : Log) × (w : Log) × H r w × ((v : Reply) × (f v ≡ Stuck r) × Told (D v) T)
IsHeaded f D T H a (Err failure.NoMemory) = (r : Log) × (w : Log) × H r w × TellsNone T

-- where an instruction stands that was told a header
abbrev pub IsFollowed : Run → Running → Log → Log → Result (Option Wanted) Failure → Type 0
IsFollowed x a w r (Ok next) = x ≡ goes_on a w r next
IsFollowed x a w r (Err failure.Wrong) = x ≡ Stuck r
IsFollowed x a w r (Err failure.NoMemory) = Unit {0}

-- a new object is pushed, or thrown by its type
abbrev pub settled : Made → Program → Bounds → ℕ → ℕ → Meter → Frames → Log → Log → Run
settled Pushed P B o t m fs w r = On phase.Open (resumed (slot.Ref o ∷ []) fs) m w r
settled Raised P B o t m fs w r = on_thrown B (unwinds P o t fs) (meter_thrown o t m) w r

-- A run that began as c has come to where an instruction waits for this. T says what the gate was told, and H what holds of its reads and writes.
pub record Following (P : Program) (B : Bounds) (T : List Event → Type 0) (H : Log → Log → Type 0) (c : Run) (x : Wanted) (a : Running) : Type 0 where
  pub reads : Log
  pub writes : Log
  pub run : Run
  pub holds : H reads writes
  pub events : List Event
  pub no_entry : AreOpen events
  pub comes : Way P B c events run
  pub waits : Waits P B x a writes reads run
  pub told : T events

abbrev pub IsNotHead : Wanted → Type 0
IsNotHead (Head o u) = ⊥
IsNotHead a = Unit {0}

-- the words and the header of a new object of a type
pub record IsFresh (P : Program) (type length : ℕ) (x : Fresh) : Type 0 where
  pub row : Row
  pub there : row_at P type ≡ Some row
  pub words : x.words ≡ words_of (object_of type length row)
  pub header_is : x.header ≡ header (object_of type length row)

-- A jump that goes on in its method: one that is no turn, or a turn of those that are left.
pub record HasJumped (to : ℕ) (counts : Bool) (a a' : Running) : Type 0 where
  pub frame : a'.frame ≡ at_place to a.frame
  pub stage : a'.stage ≡ a.stage
  pub tried : a'.tried ≡ a.tried
  pub goes : (P : Program) (B : Bounds) (w r : Log) → is_counted P a.frame.method ≡ counts
      → on_asked P B (jumps P to a.frame a.callers) (phase_of a.stage) (Gives 0) (meter a) w r ≡ at a' w r

-- Instructions that ask for nothing, and one behind them, which stands in this frame and leaves this to be done.
pub record IsPlain (P : Program) (a a' : Running) (result : Result Doing Failure) : Type 0 where
  pub frame : Frame
  pub comes : (B : Bounds) (w r : Log) → Way P B (at a w r) [] (On (phase_of a'.stage) (frame ∷ a'.callers) (meter a') w r)
  pub does : (fs : Frames) → IsDone P result a'.frame fs (step P (frame ∷ fs))

-- the same, where it may not have been done
abbrev pub IsGone : Program → Running → Running → Result Flow Failure → Type 0
IsGone P a a' (Ok flow.Next) = IsPlain P a a' (Ok doing.Next)
IsGone P a a' (Ok (flow.Jump to)) = IsPlain P a a' (Ok (doing.Jump to))
IsGone P a a' (Ok (flow.Trap t)) = IsPlain P a a' (Ok (doing.Trap t))
IsGone P a a' (Ok flow.Other) = (B : Bounds) (w r : Log) → Way P B (at a w r) [] (at a' w r)
IsGone P a a' (Err e) = IsPlain P a a' (Err e)

-- A frame that comes to stand so, over whatever frames.
abbrev pub Reaches : Program → Frame → Frame → Type 0
Reaches P f g = (B : Bounds) (p : Phase) (fs : Frames) (m : Meter) (w r : Log) → Way P B (On p (f ∷ fs) m w r) [] (On p (g ∷ fs) m w r)

-- Instructions of one frame that each go on to the next, and one behind them, which leaves this to be done.
pub record HasDone (P : Program) (f f' : Frame) (result : Result Doing Failure) : Type 0 where
  pub frame : Frame
  pub reaches : Reaches P f frame
  pub does : (fs : Frames) → IsDone P result f' fs (step P (frame ∷ fs))

-- the same, where it may not have been done
abbrev pub IsStraight : Program → Frame → Frame → Result Flow Failure → Type 0
IsStraight P f f' (Ok flow.Next) = HasDone P f f' (Ok doing.Next)
IsStraight P f f' (Ok (flow.Jump to)) = HasDone P f f' (Ok (doing.Jump to))
IsStraight P f f' (Ok (flow.Trap t)) = HasDone P f f' (Ok (doing.Trap t))
IsStraight P f f' (Ok flow.Other) = Reaches P f f'
IsStraight P f f' (Err e) = HasDone P f f' (Err e)

-- the same, where an int may be held behind them
abbrev pub IsStraightOn : Program → Frame → Frame → Result Outcome Failure → Type 0
IsStraightOn P f f' (Ok (outcome.Int x)) = Reaches P f (with_int x f')
IsStraightOn P f f' (Ok (outcome.Flow w)) = IsStraight P f f' (Ok w)
IsStraightOn P f f' (Err e) = IsStraight P f f' (Err e)

-- instructions that ask for nothing but headers, and a turn of the machine behind them
pub record HasTurned (P : Program) (B : Bounds) (c : Run) (T : List Event → Type 0) (H : Log → Log → Type 0) (a : Running) (result : Result Todo Failure) : Type 0 where
  pub before : Run
  pub events : List Event
  pub no_entry : AreOpen events
  pub comes : Way P B c events before
  pub turn : IsTurn B (λ v. next_run P B v before) (λ v es. AreOfStep P B v before es) (λ es. T (events ++ es)) H a result

-- the wrapper returns or throws
abbrev pub IsLast : Answer → Type 0
IsLast (answer.Returned v) = Unit {0}
IsLast (answer.Threw class) = Unit {0}
IsLast x = ⊥

-- what the code after a commit comes to
abbrev pub IsFinished : Program → Bounds → Run → Meter → Log → Log → Result Answer Failure → Type 0
IsFinished P B c m w r (Ok x) = Way P B c [] (Ended x m w r) × IsLast x
IsFinished P B c m w r (Err failure.Wrong) = Way P B c [] (Stuck r)
IsFinished P B c m w r (Err failure.NoMemory) = Unit {0}

-- An entry of the awaited call that ended so, with these reads and writes, was added where it is allowed. Each attempt before its own met a
-- conflict.
pub record HasAdded (A : Call → ℕ → Type 0) (allows : Entry → Type 0) (S : List Entry → ℕ → Log → Log → Type 0) (h : List Entry) (n before tried : ℕ) (e : End) (r w : Log) : Type 0 where
  pub conflicts : ℕ
  pub later : n ≤ conflicts
  pub tries : n + tried ≡ conflicts + 1
  pub stamped : IsOfWrites e.stamp w
  pub adds : (c : Call) → A c before → IsAllowed allows e.answer c before e.used r w → S (h ++ made c e.answer before e.used e.stamp r w ∷ []) conflicts [] []

-- An open attempt, in which each answer that the code after the commit may give may be that of an entry.
pub record MayCommit (P : Program) (B : Bounds) (a : Running) (allows : Entry → Type 0) (S : List Entry → ℕ → Log → Log → Type 0) (A : Call → ℕ → Type 0) : Type 0 where
  pub history : List Entry
  pub conflicts : ℕ
  pub reads : Log
  pub writes : Log
  pub call : Call
  pub stands : S history conflicts reads writes
  pub awaits : A call B.used
  pub allowed : (x : Answer) → IsLast x → Comes P B (on_commit B (Gives 0) (frames a) (meter a) writes reads) (Ended x (meter a) writes reads)
      → IsAllowed allows x call B.used a.used reads writes

-- a commit: c is the run by the engine's reply
abbrev pub IsCommit : Program → Bounds → (Reply → Run) → (Call → ℕ → Type 0) → (Entry → Type 0) → (Log → Type 0) → (List Entry → ℕ → Log → Log → Type 0) → List Entry → ℕ → Meter → Log → Log → Running → Result (Option End) Failure → Type 0
IsCommit P B c A allows K S h n m r w a (Ok (Some e)) = (Way P B (c (Gives 0)) [] (Ended e.answer m w r) × IsLast e.answer × (e.used ≡ m.used)) × HasAdded A allows S h n B.used m.tried e r w
IsCommit P B c A allows K S h n m r w a (Ok None) = (c Refuses ≡ at a [] []) × Holds (S h) K n a.stage a.tried [] []
IsCommit P B c A allows K S h n m r w a (Err failure.Wrong) = Holds (S h) K n a.stage a.tried r w × Way P B (c (Gives 0)) [] (Stuck r)
IsCommit P B c A allows K S h n m r w a (Err failure.NoMemory) = Leaves (S h) n a.stage

-- what a commit told
abbrev pub TellsCommit : (List Event → Type 0) → Result (Option End) Failure → Type 0
TellsCommit T (Ok (Some e)) = T (event.Ended ∷ [])
TellsCommit T result = T []

-- the start of a call
abbrev pub IsStarted : Program → Bounds → ℕ → List Value → Result Running Failure → Type 0
IsStarted P B m args (Ok a) = (run_start P B m args ≡ at a [] []) × (a.stage ≡ Ready) × (a.tried ≡ 0)
IsStarted P B m args (Err failure.Wrong) = run_start P B m args ≡ Stuck []
IsStarted P B m args (Err failure.NoMemory) = Unit {0}

-- a run that ended with an entry; T says how many attempts were begun, G what the gate was told, and K what is known of reads
pub record Ends (P : Program) (B : Bounds) (c : Run) (A : Call → ℕ → Type 0) (allows : Entry → Type 0) (T : ℕ → Type 0) (G : List Event → Type 0) (S : List Entry → ℕ → Log → Log → Type 0) (h : List Entry) (n : ℕ) (K : Log → Type 0) (e : End) : Type 0 where
  pub reads : Log
  pub writes : Log
  pub meter_then : Meter
  pub steps : List Event
  pub comes : Way P B c steps (Ended e.answer meter_then writes reads)
  pub knows : Knows P B K comes.0 c
  pub leaves : meter_then.used ≡ e.used
  pub begun : T meter_then.tried
  pub added : HasAdded A allows S h n B.used meter_then.tried e reads writes
  pub told : G (steps ++ event.Ended ∷ [])

-- the attempts were used up, each by a conflict
pub record IsSpent (P : Program) (B : Bounds) (c : Run) (T : ℕ → Type 0) (G : List Event → Type 0) (S : ℕ → Log → Log → Type 0) (n : ℕ) (K : Log → Type 0) (e : End) : Type 0 where
  pub meter_then : Meter
  pub begun : T meter_then.tried
  pub steps : List Event
  pub no_entry : AreOpen steps
  pub comes : Way P B c steps (Ended answer.Spent meter_then [] [])
  pub knows : Knows P B K comes.0 c
  pub stands : S (n + meter_then.tried) [] []
  pub unplaced : IsUnplaced B e
  pub told : G steps

-- how a run ends, by its answer
abbrev pub IsEndBy : Answer → Program → Bounds → Run → (Call → ℕ → Type 0) → (Entry → Type 0) → (ℕ → Type 0) → (List Event → Type 0) → (List Entry → ℕ → Log → Log → Type 0) → List Entry → ℕ → (Log → Type 0) → End → Type 0
IsEndBy answer.Spent P B c A allows T G S h n K e = IsSpent P B c T G (S h) n K e
IsEndBy answer.NoMemory P B c A allows T G S h n K e = ⊥
IsEndBy x P B c A allows T G S h n K e = Ends P B c A allows T G S h n K e

-- a run that is stuck, and what is known of its reads
pub record IsStuckBy (P : Program) (B : Bounds) (c : Run) (K : Log → Type 0) : Type 0 where
  pub reads : Log
  pub comes : Comes P B c (Stuck reads)
  pub knew : (reads ≡ []) ⊎ K reads

-- how a run ends; E says what is known after an error, and K of what its attempts read
abbrev pub IsEnd : Program → Bounds → Run → (Call → ℕ → Type 0) → (Entry → Type 0) → (ℕ → Type 0) → (List Event → Type 0) → (List Entry → ℕ → Log → Log → Type 0) → List Entry → ℕ → Type 0 → (Log → Type 0) → Result End Failure → Type 0
IsEnd P B c A allows T G S h n E K (Ok e) = IsEndBy e.answer P B c A allows T G S h n K e
IsEnd P B c A allows T G S h n E K (Err failure.Wrong) = E × IsStuckBy P B c K × TellsNone G
IsEnd P B c A allows T G S h n E K (Err failure.NoMemory) = E × TellsNone G

-- a call that began as c has come to where it stands; T says what the gate was told
pub record OnWay (P : Program) (B : Bounds) (c : Run) (T : List Event → Type 0) (S : ℕ → Log → Log → Type 0) (K : Log → Type 0) (n : ℕ) (a : Running) : Type 0 where
  pub reads : Log
  pub writes : Log
  pub holds : Holds S K n a.stage a.tried reads writes
  pub events : List Event
  pub no_entry : AreOpen events
  pub comes : Way P B c events (at a writes reads)
  pub knows : Knows P B K comes.0 c
  pub told : T events
