-- What the calls of a lane keep to, and what they lead to.
use Rattle.std.specs.Prelude.{◌≡◌, ◌⊎◌, ◌≤ℤ◌, ℕ, List, pos, map, IfSome}
use Rattle.std.specs.List.{AllByRecursion}
use Rattle.jmodel.specs.declared.value.Answer.{Answer}
use Rattle.jmodel.specs.history.History.{Call, Entry, Told, Words}
use Rattle.jmodel.specs.history.Schedule.{Known}
use Rattle.objects.specs.semantics.Program.{Method, Program}
use Rattle.objects.specs.semantics.State.{State}
use Rattle.objects.specs.rewriting.Attempt.{Bounds, Runs}
use Rattle.objects.specs.history.Meaning.{Represents, region_of}
use Rattle.objects.specs.history.Journal.{IsRootCall}
use Rattle.objects.specs.rewriting.Rewriting.{rewritten}
use Rattle.objects.specs.semantics.Serial.{Serial}
use Rattle.objects.specs.typing.Typing.{Table}
use Rattle.objects.specs.laws.TypingLaw.{IsTypedProgram}
use Rattle.tx_core.specs.Engine.{LeadsTo}
use Rattle.tx_core.specs.Serial.{word_in}
use Rattle.tx_table.specs.Book.{IsOfLane}
use Rattle.tx_table.specs.Rule.{Story, start, used_at}

-- no number of attempts, or at least one
abbrev pub MayAttempt : Method → Type 0
MayAttempt k = IfSome k.retries (λ n. pos 1 ≤ℤ n)

-- the program that runs is the rewriting of one of typed methods, each of which may make an attempt where it is marked
pub record IsReady (P Q : Program) : Type 0 where
  pub tables : List Table
  pub code : Q ≡ rewritten P tables
  pub typed : IsTypedProgram P tables
  pub marked : AllByRecursion MayAttempt P.methods

-- a call of a marked static method of the program, with arguments of its parameters' types
abbrev pub IsCallOf : Program → Known → Type 0
IsCallOf P c = IsRootCall P c.method c.args

-- the limits of an entry's call, where a region has size words
abbrev pub bounds_at : ℕ → ℕ → ℕ → Entry → Bounds
bounds_at size budget attempts e = record { budget = budget; attempts = attempts; region = region_of size e.call; used = e.used_before }

-- An entry of a call of a marked method of a typed program. The call ran on the program's rewriting: its run ended with the entry's answer and used
-- words, and its last attempt read and wrote what the entry has.
pub record IsRuled (P Q : Program) (size budget attempts : ℕ) (e : Entry) : Type 0 where
  pub ready : IsReady P Q
  pub called : IsRootCall P e.call.method e.call.args
  pub of_lane : IsOfLane e.call
  pub runs : Runs Q (bounds_at size budget attempts e) e.call.method e.call.args e.answer e.used_after e.writes e.reads

-- what the history of a table may begin with, by the stories that it may have
abbrev pub Begun : (T : Type 0) → (T → Story) → Words → (ℕ → ℕ) → Type 0
Begun T story first opened = (o : T) × (first ≡ start (story o)) × (opened ≡ used_at (story o))

-- Others add entries to the history, or the history leads to so many used words of a call's region, whatever it began with.
abbrev pub Leads : Type 0 → (Words → (ℕ → ℕ) → Type 0) → List Entry → Call → ℕ → Type 0
Leads shared begins h c used = shared ⊎ ((first : Words) (opened : ℕ → ℕ) → begins first opened → LeadsTo opened h c used)

-- words stand for a state that has these used words in each region of size words
pub record IsState (P : Program) (size : ℕ) (words : List ℕ) (used : ℕ → ℕ) (σ : State) : Type 0 where
  pub represents : Represents P size (word_in words) σ
  pub used_are : (region : ℕ) → σ.used region ≡ used region

abbrev pub calls_of : List Told → List Call
calls_of ts = map (λ (t : Told). t.call) ts

abbrev pub answers_of : List Told → List Answer
answers_of ts = map (λ (t : Told). t.answer) ts

-- These calls, each run alone by its original method from what those before it left, answer so; words and used words stand for what they leave.
pub record IsStretch (P : Program) (size budget : ℕ) (σ : State) (words : List ℕ) (used : ℕ → ℕ) (ts : List Told) : Type 0 where
  pub after : State
  pub serial : Serial P size budget σ (calls_of ts) (answers_of ts) after
  pub stands : IsState P size words used after
