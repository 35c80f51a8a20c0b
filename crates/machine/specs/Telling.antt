-- What a gate is told of a call.
use Rattle.std.specs.Prelude.{◌≡◌, ℕ, ◌+◌, ◌≤◌, List, [], ◌∷◌, ◌++◌, Result, Ok, Err}
use Rattle.jmodel.specs.declared.value.Answer.{Answer}
use Rattle.jmodel.specs.declared.value.Answer.TheVariants.{Spent, NoMemory}
use Rattle.jmodel.specs.history.History.{Call, Entry, made}
use Rattle.objects.specs.declared.event.Event.{Event}
use Rattle.objects.specs.semantics.Program.{Program}
use Rattle.objects.specs.rewriting.Attempt.{Log, Bounds}
use Rattle.objects.specs.rewriting.Events.{Tells, AreOpen}
use Rattle.machine.specs.declared.machine.End.{End}
use Rattle.machine.specs.declared.machine.Stuck.{Stuck as IsStuck}
use Rattle.tx_core.specs.Engine.{IsOfWrites}

-- No entry was told; T says what was.
pub record TellsNone (T : List Event → Type 0) : Type 0 where
  pub events : List Event
  pub no_entry : AreOpen events
  pub told : T events

-- One entry more, of a run that ended so, and just the run's events.
pub record TellsEntry (P : Program) (B : Bounds) (c : Call) (S : List Entry → ℕ → Log → Log → Type 0) (h : List Entry) (n : ℕ) (T : List Event → Type 0) (e : End) : Type 0 where
  pub conflicts : ℕ
  pub later : n ≤ conflicts
  pub reads : Log
  pub writes : Log
  pub events : List Event
  pub tells : Tells P B c.method c.args e.answer e.used writes reads events
  pub tries : n + tells.meter.tried ≡ conflicts + 1
  pub stamped : IsOfWrites e.stamp writes
  pub stands : S (h ++ made c e.answer B.used e.used e.stamp reads writes ∷ []) conflicts [] []
  pub told : T events

-- by the answer
abbrev pub TellsBy : Answer → Program → Bounds → Call → (List Entry → ℕ → Log → Log → Type 0) → List Entry → ℕ → (List Event → Type 0) → End → Type 0
TellsBy Spent P B c S h n T e = TellsNone T
TellsBy NoMemory P B c S h n T e = TellsNone T
TellsBy x P B c S h n T e = TellsEntry P B c S h n T e

-- What a call tells. S says what the engine stands for then, and T what the gate was told.
abbrev pub TellsRun : Program → Bounds → Call → (List Entry → ℕ → Log → Log → Type 0) → List Entry → ℕ → (List Event → Type 0) → Result End IsStuck → Type 0
TellsRun P B c S h n T (Ok e) = TellsBy e.answer P B c S h n T e
TellsRun P B c S h n T (Err s) = TellsNone T
