-- Calls that are never stuck.
use Rattle.std.specs.Prelude.{◌≡◌, ℕ, ℤ, ◌≤◌, List, Some, slice_get}
use Rattle.jmodel.specs.declared.value.Value.{Value}
use Rattle.jmodel.specs.history.History.{Entry, Words}
use Rattle.objects.specs.declared.op.Dispatch.TheVariants as dispatch
use Rattle.objects.specs.semantics.Program.{Method, Program}
use Rattle.objects.specs.semantics.State.{State}
use Rattle.objects.specs.history.Meaning.{Represents, Explains}
use Rattle.objects.specs.rewriting.Rewriting.{rewritten}
use Rattle.objects.specs.laws.SerialLaw.{HasUsed}
use Rattle.objects.specs.typing.Source.{AreArguments}
use Rattle.objects.specs.typing.Typing.{Table}
use Rattle.objects.specs.laws.TypingLaw.{IsTypedProgram}
use Rattle.machine.specs.declared.machine.Limits.{Limits}

-- A call of a wrapper of the rewriting Q of a typed program, with arguments of its parameters' types.
pub record IsTypedCall (P : Program) (Ts : List Table) (Q : Program) (m : ℕ) (args : List Value) : Type 0 where
  pub typed : IsTypedProgram P Ts
  pub is : Q ≡ rewritten P Ts
  pub method : Method
  pub retries : ℤ
  pub there : slice_get P.methods m ≡ Some method
  pub static : method.dispatch ≡ dispatch.Static
  pub marked : method.retries ≡ Some retries
  pub given : AreArguments method.parameters args

-- words, and used words of regions, that stand for a state
pub record AreOfState (P : Program) (size : ℕ) (first : Words) (opened : ℕ → ℕ) : Type 0 where
  pub state : State
  pub represents : Represents P size first state
  pub has : HasUsed state opened

-- Some words stand for a state in which the region has no more than these used words.
pub record IsReached (P : Program) (size region used : ℕ) : Type 0 where
  pub words : Words
  pub opened : ℕ → ℕ
  pub stand : AreOfState P size words opened
  pub below : opened region ≤ used

-- What a history may begin with is of states, as are the words that a call begins with, and entries that may be committed are explained.
pub record IsOverStates (P : Program) (limits : Limits) (begins : Words → (ℕ → ℕ) → Type 0) (allows : Entry → Type 0) : Type 0 where
  pub begun : (first : Words) (opened : ℕ → ℕ) → begins first opened → AreOfState P limits.room.size first opened
  pub reached : IsReached P limits.room.size limits.room.region limits.room.used
  pub explained : (e : Entry) → allows e → Explains P limits.room.size limits.budget e
