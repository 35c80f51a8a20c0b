-- The laws of the rewriting.
use Rattle.std.specs.Prelude.{◌≡◌, ◌<◌, ◌++◌, ℕ, ℤ, List, Option, Some, None, slice_get}
use Rattle.std.specs.List.{AllByRecursion}
use Rattle.jmodel.specs.declared.value.Value.{Value}
use Rattle.jmodel.specs.declared.value.Answer.{Answer}
use Rattle.objects.specs.declared.op.Dispatch.TheVariants as dispatch
use Rattle.objects.specs.semantics.Program.{Method, Program}
use Rattle.objects.specs.typing.Typing.{Table}
use Rattle.objects.specs.typing.Source.{AreArguments}
use Rattle.objects.specs.rewriting.Attempt.{Log, Reply, Bounds, Run, On, Asking, Stuck, run, run_start, Runs, count_of}
use Rattle.objects.specs.semantics.Traps.{traps, Begins}
use Rattle.jmodel.specs.history.History.{Entry, Words, overlaid, Agrees, AreEntries, memory_after, used_after}
use Rattle.objects.specs.semantics.State.{State}
use Rattle.objects.specs.semantics.Call.{Direct, direct, call_start, Calls}
use Rattle.objects.specs.semantics.Call as call
use Rattle.objects.specs.history.Meaning.{Represents, Explains}
use Rattle.objects.specs.laws.SerialLaw.{HasUsed}
use Rattle.objects.specs.rewriting.Rewriting.{rewritten}
use Rattle.objects.specs.laws.TypingLaw.{IsTypedProgram}

-- An entry that tells of a wrapper's call: of what it was called with, how it ended, what its last attempt read and wrote, and the used words
-- of its region before and after it.
pub record TellsOf (B : Bounds) (m : ℕ) (args : List Value) (x : Answer) (used : ℕ) (w r : Log) (e : Entry) : Type 0 where
  pub method : e.call.method ≡ m
  pub given : e.call.args ≡ args
  pub region : e.call.region ≡ B.region.number
  pub answer : e.answer ≡ x
  pub reads : e.reads ≡ r
  pub writes : e.writes ≡ w
  pub used_before : e.used_before ≡ B.used
  pub used_after : e.used_after ≡ used

-- A call of rewritten typed code, over each engine, is what the original method would have done in one piece.
abbrev pub Simulation : Type 0
Simulation = (P : Program) (Ts : List Table) → IsTypedProgram P Ts → (B : Bounds) (m : ℕ) (k : Method) (n : ℤ) → slice_get P.methods m ≡ Some k → k.dispatch ≡ dispatch.Static → k.retries ≡ Some n
    → (args : List Value) → AreArguments k.parameters args
    → (x : Answer) (used : ℕ) (w r : Log) → Runs (rewritten P Ts) B m args x used w r → (e : Entry) → TellsOf B m args x used w r e → Explains P B.region.size B.budget e

-- A call of rewritten typed code is never stuck where what it read is what words have that stand for a state.
abbrev pub Soundness : Type 0
Soundness = (P : Program) (Ts : List Table) → IsTypedProgram P Ts → (B : Bounds) (m : ℕ) (k : Method) (n : ℤ) → slice_get P.methods m ≡ Some k → k.dispatch ≡ dispatch.Static → k.retries ≡ Some n
    → (args : List Value) → AreArguments k.parameters args → (vs : List Reply) (r : Log) → run (rewritten P Ts) B vs (run_start (rewritten P Ts) B m args) ≡ Stuck r
    → (words : Words) (σ : State) → Represents P B.region.size words σ → Agrees words r → σ.used B.region.number ≡ B.used → ⊥

-- So it is where it is what memory has after a list of explained entries.
abbrev pub SnapshotSoundness : Type 0
SnapshotSoundness = (P : Program) (Ts : List Table) → IsTypedProgram P Ts → (B : Bounds) (m : ℕ) (k : Method) (n : ℤ) → slice_get P.methods m ≡ Some k → k.dispatch ≡ dispatch.Static → k.retries ≡ Some n
    → (args : List Value) → AreArguments k.parameters args → (vs : List Reply) (r : Log) → run (rewritten P Ts) B vs (run_start (rewritten P Ts) B m args) ≡ Stuck r
    → (h : List Entry) (words : Words) (used : ℕ → ℕ) (σ : State) → Represents P B.region.size words σ → HasUsed σ used → AreEntries words used h
    → AllByRecursion (Explains P B.region.size B.budget) h → Agrees (memory_after h words) r → used_after h B.region.number (used B.region.number) ≡ B.used → ⊥

abbrev pub state_of : Direct → Option State
state_of (call.On fs k σ) = Some σ
state_of (call.Asking a fs k σ) = Some σ
state_of (call.Ended x σ) = Some σ
state_of call.Stuck = None

-- The original method, run alone, comes to a state that the words with these writes stand for.
pub record Matched (P : Program) (B : Bounds) (m : ℕ) (args : List Value) (w : Log) (words : Words) (σ : State) : Type 0 where
  pub steps : ℕ
  pub after : State
  pub comes : state_of (direct P B.region steps (call_start P m args B.budget σ)) ≡ Some after
  pub represents : Represents P B.region.size (overlaid w words) after

-- a run on its way, with what it wrote and read
abbrev pub IsOnWay : Log → Log → Run → Type 0
IsOnWay w r (On p fs M v q) = (w ≡ v) × (r ≡ q)
IsOnWay w r (Asking a fs M v q) = (w ≡ v) × (r ≡ q)
IsOnWay w r c = ⊥

-- An attempt so far, however it goes on, is matched by a run of the original method from each state that has what it read.
abbrev pub Prefix : Type 0
Prefix = (P : Program) (Ts : List Table) → IsTypedProgram P Ts → (B : Bounds) (m : ℕ) (k : Method) (n : ℤ) → slice_get P.methods m ≡ Some k → k.dispatch ≡ dispatch.Static → k.retries ≡ Some n
    → (args : List Value) → AreArguments k.parameters args → (vs : List Reply) (w r : Log) → IsOnWay w r (run (rewritten P Ts) B vs (run_start (rewritten P Ts) B m args))
    → (words : Words) (σ : State) → Represents P B.region.size words σ → Agrees words r → σ.used B.region.number ≡ B.used → Matched P B m args w words σ

-- The original method, run alone, meets these traps first, and so does each call of it that ends.
pub record MeetsFirst (P : Program) (B : Bounds) (m : ℕ) (args : List Value) (σ : State) (ts : List ℕ) : Type 0 where
  pub steps : ℕ
  pub meets : traps P B.region steps (call_start P m args B.budget σ) ≡ ts
  pub ends : (x : Answer) (τ : State) (c : Calls P B.budget B.region m args σ x τ) → (others : List ℕ) × (traps P B.region c.steps (call_start P m args B.budget σ) ≡ ts ++ others)

-- The traps that an attempt has met so far are those that the original meets first, from each state that has what the attempt read.
abbrev pub PrefixTraps : Type 0
PrefixTraps = (P : Program) (Ts : List Table) → IsTypedProgram P Ts → (B : Bounds) (m : ℕ) (k : Method) (n : ℤ) → slice_get P.methods m ≡ Some k → k.dispatch ≡ dispatch.Static → k.retries ≡ Some n
    → (args : List Value) → AreArguments k.parameters args → (r : Log) (ts : List ℕ) → Begins (rewritten P Ts) B m args r ts
    → (words : Words) (σ : State) → Represents P B.region.size words σ → Agrees words r → σ.used B.region.number ≡ B.used → MeetsFirst P B m args σ ts

-- A run of the rewritten code that ends so: its last attempt read what memory has, its writes leave words that stand for a state, and the used
-- words of its region are that state's.
pub record Meets (P : Program) (Ts : List Table) (B : Bounds) (m : ℕ) (args : List Value) (words : Words) (x : Answer) (τ : State) : Type 0 where
  pub writes : Log
  pub reads : Log
  pub runs : Runs (rewritten P Ts) B m args x (τ.used B.region.number) writes reads
  pub agrees : Agrees words reads
  pub represents : Represents P B.region.size (overlaid writes words) τ

-- The other way: where a call of the original method ends, a run of the rewritten code ends with the same answer and state.
abbrev pub Completion : Type 0
Completion = (P : Program) (Ts : List Table) → IsTypedProgram P Ts → (B : Bounds) (m : ℕ) (k : Method) (n : ℤ) → slice_get P.methods m ≡ Some k → k.dispatch ≡ dispatch.Static → k.retries ≡ Some n → 0 < count_of n → 0 < B.attempts
    → (args : List Value) → AreArguments k.parameters args
    → (words : Words) (σ : State) → Represents P B.region.size words σ → σ.used B.region.number ≡ B.used
    → (x : Answer) (τ : State) → Calls P B.budget B.region m args σ x τ → Meets P Ts B m args words x τ
