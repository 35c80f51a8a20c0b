-- What a gate is told of a call: the events of its attempts, along the steps of the call's run.
use Rattle.std.specs.Prelude.{◌≡◌, ◌≢◌, ◌⊎◌, ℕ, ◌+◌, List, [], ◌∷◌, ◌++◌, Option, Some, None, Bool, true, false, nat_lt, min}
use Rattle.jmodel.specs.declared.value.Value.{Value}
use Rattle.jmodel.specs.declared.value.Answer.{Answer}
use Rattle.jmodel.specs.declared.value.Answer.TheVariants.{Spent}
use Rattle.objects.specs.declared.event.Event.{Event}
use Rattle.objects.specs.declared.event.Event.TheVariants.{Began, Looked, Loaded, Checked, Wrote}
use Rattle.objects.specs.declared.event.Event.TheVariants as event
use Rattle.objects.specs.declared.op.Phase.{Phase}
use Rattle.objects.specs.declared.op.Phase.TheVariants.{Ready, Open}
use Rattle.objects.specs.declared.op.Element.TheVariants as element
use Rattle.objects.specs.declared.op.Use.{Use}
use Rattle.objects.specs.declared.op.Use.TheVariants.{Indexes}
use Rattle.objects.specs.declared.op.Request.{Request}
use Rattle.objects.specs.declared.op.Request.TheVariants as request
use Rattle.objects.specs.declared.op.Asking.{Asking as Wanted}
use Rattle.objects.specs.declared.op.Asking.TheVariants.{Raise, Make, Head, Ask}
use Rattle.objects.specs.semantics.Program.{Row, Program, row_at}
use Rattle.objects.specs.semantics.Step.{Asked, Asks, Fails, step}
use Rattle.objects.specs.semantics.Region.{next_reference, has_words}
use Rattle.objects.specs.semantics.State.{words_of, object_of}
use Rattle.objects.specs.rewriting.Attempt.{address, Log, Reply, Gives, Refuses, Bounds, Meter, Run, On, Asking, Ended, count_of, next_run, run, run_start}

abbrev pub begun_events : Bool → List Event
begun_events true = Began ∷ []
begun_events false = []

-- What the engine is asked for tells: a look, a load that is checked, a write. What it refuses isn't told, but the load of a read that it didn't vouch for.
abbrev pub request_events : Bounds → Request → Phase → Reply → Meter → List Event
request_events B (request.Begin n) Ready v m = begun_events (nat_lt m.tried (min (count_of n) B.attempts))
request_events B (request.Look p) Open (Gives v) m = Looked (address p) ∷ []
request_events B (request.Read p t) Open (Gives v) m = Loaded (address p) ∷ Checked (address p) ∷ []
request_events B (request.Read p t) Open Refuses m = Loaded (address p) ∷ []
request_events B (request.Write p x) Open (Gives v) m = Wrote (address p) ∷ []
request_events B q p v m = []

-- A header is looked at, loaded and checked as any word. Where the engine refuses, it did so before the load, or after it.
abbrev pub AreOfHeader : Reply → ℕ → List Event → Type 0
AreOfHeader (Gives v) o es = es ≡ Looked o ∷ Loaded o ∷ Checked o ∷ []
AreOfHeader Refuses o es = (es ≡ []) ⊎ (es ≡ Looked o ∷ Loaded o ∷ [])

-- a plain load of an element reads no header
abbrev pub AreOfHead : Use → Reply → ℕ → List Event → Type 0
AreOfHead (Indexes i element.Load) v o es = es ≡ []
AreOfHead u v o es = AreOfHeader v o es

-- the header of a new object is written, where there is room for it
abbrev pub header_events : Bool → Reply → ℕ → List Event
header_events true (Gives v) o = Wrote o ∷ []
header_events has v o = []

abbrev pub made_events : Option Row → ℕ → ℕ → Reply → Bounds → Meter → List Event
made_events None t n v B m = []
made_events (Some c) t n v B m = header_events (has_words B.region m.used (words_of (object_of t n c))) v (next_reference B.region m.used)

-- what serving an instruction tells, in each phase
abbrev pub AreOfAsking : Program → Bounds → Wanted → Phase → Reply → Meter → List Event → Type 0
AreOfAsking P B (Raise o) Open v m es = AreOfHeader v o es
AreOfAsking P B (Make t n d) Open v m es = es ≡ made_events (row_at P t) t n v B m
AreOfAsking P B (Head o u) Open v m es = AreOfHead u v o es
AreOfAsking P B (Ask q) p v m es = es ≡ request_events B q p v m
AreOfAsking P B a p v m es = es ≡ []

abbrev pub AreOfAsked : Program → Bounds → Asked → Phase → Reply → Meter → List Event → Type 0
AreOfAsked P B (Asks a fs) p v m es = AreOfAsking P B a p v m es
AreOfAsked P B Fails p v m es = es ≡ []

-- one step, where the engine answers v if it is asked
abbrev pub AreOfStep : Program → Bounds → Reply → Run → List Event → Type 0
AreOfStep P B v (On p fs m w r) es = AreOfAsked P B (step P fs) p v m es
AreOfStep P B v (Asking a fs m w r) es = AreOfAsking P B a Open v m es
AreOfStep P B v c es = es ≡ []

-- the steps of a run, one for each reply
abbrev pub AreOfRun : Program → Bounds → List Reply → Run → List Event → Type 0
AreOfRun P B [] c es = es ≡ []
AreOfRun P B (v ∷ vs) c es = (first : List Event) × (rest : List Event) × AreOfStep P B v c first × AreOfRun P B vs (next_run P B v c) rest × (es ≡ first ++ rest)

-- A call's events, where it ends with this answer and leaves so many words of its region used, and its last attempt wrote and read just this: those of
-- the steps of its attempts, and then `Ended`, which stands nowhere else. Attempts before the last met a conflict.
pub record Tells (P : Program) (B : Bounds) (m : ℕ) (args : List Value) (x : Answer) (used : ℕ) (w r : Log) (es : List Event) : Type 0 where
  pub meter : Meter
  pub replies : List Reply
  pub ends : run P B replies (run_start P B m args) ≡ Ended x meter w r
  pub leaves : meter.used ≡ used
  pub made : x ≢ Spent
  pub steps : List Event
  pub told : AreOfRun P B replies (run_start P B m args) steps
  pub events : es ≡ steps ++ event.Ended ∷ []

-- no attempt became an entry
abbrev pub AreOpen : List Event → Type 0
AreOpen [] = Unit {0}
AreOpen (event.Ended ∷ es) = ⊥
AreOpen (e ∷ es) = AreOpen es

-- What a gate tells after, if it does, is what it told before and these events more.
abbrev pub Grows : Option (List Event) → Option (List Event) → List Event → Type 0
Grows before None es = Unit {0}
Grows None (Some after) es = ⊥
Grows (Some before) (Some after) es = after ≡ before ++ es
