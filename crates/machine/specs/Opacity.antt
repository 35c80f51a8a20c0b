-- Opacity: at any time an attempt, also one that meets a conflict later, has seen only what one state has.
use Rattle.std.specs.Prelude.{◌≡◌, ℕ, ◌+◌, ◌<◌, ◌≤◌, List, [], ◌∷◌, ◌++◌, Result, Ok, Err}
use Rattle.jmodel.specs.declared.value.Answer.{Answer}
use Rattle.jmodel.specs.declared.value.Answer.TheVariants.{Spent, NoMemory}
use Rattle.jmodel.specs.history.History.{Call, Entry, Words, memory_after}
use Rattle.objects.specs.declared.event.Event.{Event}
use Rattle.objects.specs.semantics.Program.{Program}
use Rattle.objects.specs.semantics.State.{State}
use Rattle.objects.specs.semantics.Traps.{traps_met, IsOpen}
use Rattle.objects.specs.rewriting.Attempt.{Log, Reply, Refuses, Bounds, Meter, Run, On, Asking, Ended, Stuck, run, run_start}
use Rattle.objects.specs.rewriting.Events.{AreOfRun}
use Rattle.objects.specs.history.Meaning.{Represents}
use Rattle.objects.specs.laws.Law.{MeetsFirst}
use Rattle.machine.specs.declared.machine.End.{End}
use Rattle.machine.specs.declared.machine.Stuck.{Stuck as IsStuck}
use Rattle.machine.specs.Telling.{TellsEntry}
use Rattle.tx_core.specs.Engine.{IsSnapshot}

-- What an attempt at a call has read, and the traps that it has met, are those of one state. Entries that may be added leave, one after another, words
-- that have what it read; they stand for the state, from which the original method, run alone, meets these traps first.
pub record IsOfState (P : Program) (B : Bounds) (begins : Words → (ℕ → ℕ) → Type 0) (allows : Entry → Type 0) (c : Call) (r : Log) (ts : List ℕ) : Type 0 where
  pub snapshot : IsSnapshot begins allows c B.used r
  pub state : State
  pub represents : Represents P B.region.size (memory_after snapshot.history snapshot.first) state
  pub used : state.used B.region.number ≡ B.used
  pub meets : MeetsFirst P B c.method c.args state ts

-- where a call of rewritten code stands behind these replies of the engine, and the traps that the attempt has met by then
abbrev pub stood : Program → Bounds → Call → List Reply → Run
stood Q B c us = run Q B us (run_start Q B c.method c.args)

abbrev pub met : Program → Bounds → Call → List Reply → List ℕ
met Q B c us = traps_met Q B us (run_start Q B c.method c.args) []

-- The engine's replies to a call of rewritten code Q. Behind the first of them, however many, an attempt may be open: the one that ended, or one before
-- it, up to its conflict. What it has read and met by then is of one state.
abbrev pub IsOpaque : Program → Program → Bounds → (Words → (ℕ → ℕ) → Type 0) → (Entry → Type 0) → Call → List Reply → Type 0
IsOpaque P Q B begins allows c vs = (us ws : List Reply) → vs ≡ us ++ ws → (r : Log) → IsOpen r (stood Q B c us) → IsOfState P B begins allows c r (met Q B c us)

-- the attempts begun
abbrev pub tried_in : Run → ℕ
tried_in (On p fs m w r) = m.tried
tried_in (Asking a fs m w r) = m.tried
tried_in (Ended x m w r) = m.tried
tried_in (Stuck r) = 0

-- The k-th attempt met a conflict. Before the engine refused it was open, and what it had read and met is of one state.
pub record IsLost (P Q : Program) (B : Bounds) (begins : Words → (ℕ → ℕ) → Type 0) (allows : Entry → Type 0) (c : Call) (vs : List Reply) (k : ℕ) : Type 0 where
  pub before : List Reply
  pub behind : List Reply
  pub are : vs ≡ before ++ Refuses ∷ behind
  pub number : tried_in (stood Q B c before) ≡ k
  pub reads : Log
  pub has_read : IsOpen reads (stood Q B c before)
  pub sees : IsOfState P B begins allows c reads (met Q B c before)

-- One entry more, and just the events of its run, whose attempts each saw what one state has. Each but the last met a conflict.
pub record AddsOpaquely (P Q : Program) (B : Bounds) (begins : Words → (ℕ → ℕ) → Type 0) (allows : Entry → Type 0) (c : Call) (S : List Entry → ℕ → Log → Log → Type 0) (h : List Entry) (n : ℕ) (T : List Event → Type 0) (e : End) : Type 0 where
  pub entry : TellsEntry Q B c S h n T e
  pub sees : IsOpaque P Q B begins allows c entry.tells.replies
  pub lost : (k : ℕ) → 0 < k → k < entry.tells.meter.tried → IsLost P Q B begins allows c entry.tells.replies k

-- No entry more, and just the events of a run in which each attempt that there may be met a conflict. Each saw what one state has.
pub record IsSpentOpaquely (P Q : Program) (B : Bounds) (begins : Words → (ℕ → ℕ) → Type 0) (allows : Entry → Type 0) (c : Call) (S : ℕ → Log → Log → Type 0) (n : ℕ) (T : List Event → Type 0) : Type 0 where
  pub meter : Meter
  pub replies : List Reply
  pub ends : stood Q B c replies ≡ Ended Spent meter [] []
  pub steps : List Event
  pub are : AreOfRun Q B replies (run_start Q B c.method c.args) steps
  pub told : T steps
  pub stands : S (n + meter.tried) [] []
  pub sees : IsOpaque P Q B begins allows c replies
  pub lost : (k : ℕ) → 0 < k → k ≤ meter.tried → IsLost P Q B begins allows c replies k

-- by the answer
abbrev pub OpaqueBy : Answer → Program → Program → Bounds → (Words → (ℕ → ℕ) → Type 0) → (Entry → Type 0) → Call → (List Entry → ℕ → Log → Log → Type 0) → List Entry → ℕ → (List Event → Type 0) → End → Type 0
OpaqueBy Spent P Q B begins allows c S h n T e = IsSpentOpaquely P Q B begins allows c (S h) n T
OpaqueBy NoMemory P Q B begins allows c S h n T e = Unit {0}
OpaqueBy x P Q B begins allows c S h n T e = AddsOpaquely P Q B begins allows c S h n T e

-- What the attempts of a call saw. S says what the engine stands for then, and T what the gate was told.
abbrev pub OpaqueRun : Program → Program → Bounds → (Words → (ℕ → ℕ) → Type 0) → (Entry → Type 0) → Call → (List Entry → ℕ → Log → Log → Type 0) → List Entry → ℕ → (List Event → Type 0) → Result End IsStuck → Type 0
OpaqueRun P Q B begins allows c S h n T (Ok e) = OpaqueBy e.answer P Q B begins allows c S h n T e
OpaqueRun P Q B begins allows c S h n T (Err e) = Unit {0}
