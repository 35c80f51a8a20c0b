-- What a gate is told of the example's calls.
use Rattle.std.proofs.Common.{◌≡◌, inl, ℕ, ◌*◌, ◌^◌, refl}
use Rattle.std.specs.Prelude.{pos, List, [], ◌∷◌, ◌++◌, Some, None, replicate}
use Rattle.jmodel.specs.declared.value.Value.TheVariants.{Int}
use Rattle.jmodel.specs.declared.value.Answer.TheVariants.{Returned}
use Rattle.objects.specs.declared.event.Event.{Event}
use Rattle.objects.specs.declared.event.Event.TheVariants.{Began, Looked, Loaded, Checked, Wrote}
use Rattle.objects.specs.declared.event.Event.TheVariants as event
use Rattle.objects.specs.declared.op.Phase.{Phase}
use Rattle.objects.specs.declared.op.Phase.TheVariants.{Ready, Open, Doomed, Closed}
use Rattle.objects.specs.declared.op.Element.TheVariants as element
use Rattle.objects.specs.declared.op.Use.{Use}
use Rattle.objects.specs.declared.op.Use.TheVariants as U
use Rattle.objects.specs.declared.op.Asking.{Asking as Wanted}
use Rattle.objects.specs.declared.op.Asking.TheVariants as A
use Rattle.objects.specs.semantics.Program.{Program, row_at}
use Rattle.objects.specs.semantics.Step.{Asked, Asks, Fails, step}
use Rattle.objects.specs.rewriting.Attempt.{Bounds, Meter, Reply, Gives, Refuses, Run, On, Asking, Ended, Stuck, next_run, run_start, access}
use Rattle.objects.specs.rewriting.Events.{request_events, made_events, AreOfHeader, AreOfHead, AreOfAsking, AreOfAsked, AreOfStep, AreOfRun, Tells}
use Rattle.objects.specs.rewriting.Rewriting.{rewritten}
use Rattle.objects.proofs.ExampleProgram.{program}
use Rattle.objects.proofs.ExampleTables.{tables}
use Rattle.objects.proofs.Example.{region}

abbrev code : Program
code = rewritten program tables

abbrev bounds : Bounds
bounds = record { budget = 9; attempts = 3; region = region; used = 10 }

-- the header of a B
abbrev b : ℕ
b = 22 * 2 ^ 32

-- ---- the events of a run, where a refused read of a header tells nothing

abbrev of_header : Reply → ℕ → List Event
of_header (Gives v) o = Looked o ∷ Loaded o ∷ Checked o ∷ []
of_header Refuses o = []

header_is : (v : Reply) (o : ℕ) → AreOfHeader v o (of_header v o)
header_is (Gives v) o = refl
header_is Refuses o = inl refl

abbrev of_head : Use → Reply → ℕ → List Event
of_head (U.Indexes i element.Load) v o = []
of_head u v o = of_header v o

head_is : (u : Use) (v : Reply) (o : ℕ) → AreOfHead u v o (of_head u v o)
head_is (U.Selects k) v o = header_is v o
head_is (U.Implements k c) v o = header_is v o
head_is (U.Casts c) v o = header_is v o
head_is (U.Tests c) v o = header_is v o
head_is U.Measures v o = header_is v o
head_is (U.Indexes i element.Load) v o = refl
head_is (U.Indexes i (element.Store x)) v o = header_is v o
head_is (U.Indexes i element.Look) v o = header_is v o
head_is (U.Indexes i (element.Write x)) v o = header_is v o
head_is (U.Fits k p x) v o = header_is v o

abbrev of_asking : Program → Bounds → Wanted → Phase → Reply → Meter → List Event
of_asking P B (A.Raise o) Open v m = of_header v o
of_asking P B (A.Make t n d) Open v m = made_events (row_at P t) t n v B m
of_asking P B (A.Head o u) Open v m = of_head u v o
of_asking P B (A.Ask q) p v m = request_events B q p v m
of_asking P B x p v m = []

asking_is : (P : Program) (B : Bounds) (x : Wanted) (p : Phase) (v : Reply) (m : Meter) → AreOfAsking P B x p v m (of_asking P B x p v m)
asking_is P B A.Go p v m = refl
asking_is P B A.Turn p v m = refl
asking_is P B (A.Enter d) p v m = refl
asking_is P B (A.Return x) p v m = refl
asking_is P B (A.Throw o) p v m = refl
asking_is P B (A.Raise o) Open v m = header_is v o
asking_is P B (A.Raise o) Ready v m = refl
asking_is P B (A.Raise o) Doomed v m = refl
asking_is P B (A.Raise o) Closed v m = refl
asking_is P B (A.Make t n d) Open v m = refl
asking_is P B (A.Make t n d) Ready v m = refl
asking_is P B (A.Make t n d) Doomed v m = refl
asking_is P B (A.Make t n d) Closed v m = refl
asking_is P B (A.Head o u) Open v m = head_is u v o
asking_is P B (A.Head o u) Ready v m = refl
asking_is P B (A.Head o u) Doomed v m = refl
asking_is P B (A.Head o u) Closed v m = refl
asking_is P B (A.Ask q) p v m = refl

abbrev of_asked : Program → Bounds → Asked → Phase → Reply → Meter → List Event
of_asked P B (Asks x fs) p v m = of_asking P B x p v m
of_asked P B Fails p v m = []

asked_is : (P : Program) (B : Bounds) (x : Asked) (p : Phase) (v : Reply) (m : Meter) → AreOfAsked P B x p v m (of_asked P B x p v m)
asked_is P B (Asks x fs) p v m = asking_is P B x p v m
asked_is P B Fails p v m = refl

abbrev of_step : Program → Bounds → Reply → Run → List Event
of_step P B v (On p fs m w r) = of_asked P B (step P fs) p v m
of_step P B v (Asking x fs m w r) = of_asking P B x Open v m
of_step P B v c = []

step_is : (P : Program) (B : Bounds) (v : Reply) (c : Run) → AreOfStep P B v c (of_step P B v c)
step_is P B v (On p fs m w r) = asked_is P B (step P fs) p v m
step_is P B v (Asking x fs m w r) = asking_is P B x Open v m
step_is P B v (Ended x m w r) = refl
step_is P B v (Stuck r) = refl

abbrev of_run : Program → Bounds → List Reply → Run → List Event
of_run P B [] c = []
of_run P B (v ∷ vs) c = of_step P B v c ++ of_run P B vs (next_run P B v c)

run_is : (P : Program) (B : Bounds) (vs : List Reply) (c : Run) → AreOfRun P B vs c (of_run P B vs c)
run_is P B [] c = refl
run_is P B (v ∷ vs) c = (of_step P B v c, of_run P B vs (next_run P B v c), step_is P B v c, run_is P B vs (next_run P B v c), refl)

-- ---- the example

abbrev told : List Reply → ℕ → List Event
told vs m = of_run code bounds vs (run_start code bounds m [])

-- what a read of a word tells
abbrev read : ℕ → List Event
read o = Looked o ∷ Loaded o ∷ Checked o ∷ []

abbrev replies : List Reply
replies = replicate 13 (Gives 0) ++ Refuses ∷ replicate 22 (Gives 64) ++ replicate 18 (Gives b) ++ replicate 40 (Gives 9)

-- The first attempt meets a conflict where it looks at s. The second reads s, three times the header of the B, and its field.
conflict_first : told replies 8 ≡ Began ∷ Began ∷ read 3 ++ read 64 ++ read 64 ++ read 64 ++ read 68
conflict_first = refl

tells : Tells code bounds 8 [] (Returned (Some (Int (pos 9)))) 10 [] (access 68 9 ∷ access 64 b ∷ access 64 b ∷ access 64 b ∷ access 3 64 ∷ [])
    (Began ∷ Began ∷ read 3 ++ read 64 ++ read 64 ++ read 64 ++ read 68 ++ event.Ended ∷ [])
tells = record {
  meter = record { turns = 7; tried = 2; used = 10; thrown = None };
  replies = replies;
  ends = refl;
  leaves = refl;
  made = λ e. cc;
  steps = told replies 8;
  told = run_is code bounds replies (run_start code bounds 8 []);
  events = refl;
}
