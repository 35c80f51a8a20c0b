-- What a gate is told of the calls of a lane.
use Rattle.std.specs.Prelude.{◌≡◌, ◌+◌, ℕ, List, [], ◌∷◌, ◌++◌, Bool, true, false, Some, filter, slice_get}
use Rattle.jmodel.specs.declared.value.Value.{Value}
use Rattle.jmodel.specs.declared.value.Answer.{Answer}
use Rattle.jmodel.specs.declared.value.Answer.TheVariants.{Spent, NoMemory}
use Rattle.jmodel.specs.history.Schedule.{Known}
use Rattle.objects.specs.declared.event.Event.{Event}
use Rattle.objects.specs.semantics.Program.{Program}
use Rattle.objects.specs.rewriting.Attempt.{Log, Bounds}
use Rattle.objects.specs.rewriting.Events.{Tells, AreOpen}
use Rattle.session.specs.declared.record.Record.{Record}
use Rattle.session.specs.declared.record.Lane.{Lane}
use Rattle.session.specs.declared.record.Place.{Place}
use Rattle.session.specs.Adds.{is_spent, has_place}

-- Events of a run of a call on the program Q, which ended so: those of its attempts, and `Ended` behind them.
pub record TellsRun (Q : Program) (B : Bounds) (method : ℕ) (args : List Value) (x : Answer) (events : List Event) : Type 0 where
  pub after : ℕ
  pub writes : Log
  pub reads : Log
  pub tells : Tells Q B method args x after writes reads events

-- Events of a call that ended so. One that has no place in the history has no `Ended`.
abbrev pub TellsCall : Answer → Program → Bounds → ℕ → List Value → List Event → Type 0
TellsCall Spent Q B method args events = AreOpen events
TellsCall NoMemory Q B method args events = AreOpen events
TellsCall x Q B method args events = TellsRun Q B method args x events

-- Events of calls that were made one after another: those of each of these in one piece, in their order, and before, between and behind them events
-- without `Ended`.
abbrev pub TellsEach : {X : Type 0} → (X → List Event → Type 0) → List X → List Event → Type 0
TellsEach E [] events = AreOpen events
TellsEach E (x ∷ xs) events = (others : List Event) × (own : List Event) × (rest : List Event) × AreOpen others × E x own × TellsEach E xs rest × (events ≡ others ++ own ++ rest)

-- the record is of this call, which is among those of a lane from a place on
pub record IsRecordOf (at : Place) (calls : List Known) (r : Record) (c : Known) : Type 0 where
  pub phase : r.phase ≡ at.phase
  pub lane : r.lane ≡ at.lane
  pub count : ℕ
  pub index : r.index ≡ at.first + count
  pub there : slice_get calls count ≡ Some c

-- Events of a run of the call that a record is of, with some words of its region used before it. C says which call that is.
pub record TellsRecord (Q : Program) (B : Bounds) (C : Record → Known → Type 0) (r : Record) (events : List Event) : Type 0 where
  pub call : Known
  pub is_of : C r call
  pub before : ℕ
  pub run : TellsRun Q (record B { used = before }) call.method call.args r.answer events

-- A gate was told the events of the calls that these records are of, by T.
pub record HasTold (Q : Program) (B : Bounds) (C : Record → Known → Type 0) (placed : List Record) (T : List Event → Type 0) : Type 0 where
  pub events : List Event
  pub tells : TellsEach (TellsRecord Q B C) placed events
  pub told : T events

-- A call of a lane was made and its record stands last, where it has a place, or its attempts are used up; T says what the gate was told of it.
pub record TellsMade (Q : Program) (B : Bounds) (at : Place) (c : Known) (old new : Lane) (T : List Event → Type 0) : Type 0 where
  pub one : Record
  pub phase : one.phase ≡ at.phase
  pub lane : one.lane ≡ at.lane
  pub index : one.index ≡ at.first
  pub unspent : is_spent one.answer ≡ false
  pub placed : new.placed.items ≡ old.placed.items ++ filter has_place (one ∷ [])
  pub events : List Event
  pub tells : TellsCall one.answer Q B c.method c.args events
  pub told : T events

pub record TellsLost (T : List Event → Type 0) : Type 0 where
  pub events : List Event
  pub no_entry : AreOpen events
  pub told : T events

abbrev pub TellsOne : Bool → Program → Bounds → Place → Known → Lane → Lane → (List Event → Type 0) → Type 0
TellsOne true Q B at c old new T = TellsMade Q B at c old new T
TellsOne false Q B at c old new T = TellsLost T
