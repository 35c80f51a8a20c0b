-- Which calls a script may make, and what a run of them may print.
use Rattle.std.specs.Prelude.{◌≡◌, ℕ, ℤ, List, map, Some, Bool, not, ◌&&◌, is_some, slice_get}
use Rattle.jmodel.specs.declared.value.Value.{Value}
use Rattle.objects.specs.linking.Code.{names_initialiser}
use Rattle.jmodel.specs.history.Schedule.{ScriptPhase, Made, IsAccepted, call_of, answer_of}
use Rattle.objects.specs.declared.op.Dispatch.TheVariants as dispatch
use Rattle.objects.specs.semantics.Program.{Method, Program}
use Rattle.objects.specs.typing.Source.{AreArguments}
use Rattle.objects.specs.semantics.State.{State}
use Rattle.objects.specs.semantics.Serial.{Serial}

-- whether a method is marked
abbrev pub is_marked : Method → Bool
is_marked k = is_some k.retries && not (names_initialiser k.name)

-- A call from outside: of a static method that is marked or a static initialiser, with arguments of its parameters' types, each reference null.
pub record IsRootCall (P : Program) (m : ℕ) (args : List Value) : Type 0 where
  pub method : Method
  pub retries : ℤ
  pub there : slice_get P.methods m ≡ Some method
  pub static : method.dispatch ≡ dispatch.Static
  pub marked : method.retries ≡ Some retries
  pub given : AreArguments method.parameters args

-- The placed calls, each run alone by its original method from what those before it left, answer so. The unplaced ones left nothing.
pub record IsJournal (P : Program) (size budget : ℕ) (opening : State) (phases : List ScriptPhase) (placed unplaced : List Made) : Type 0 where
  pub accepted : IsAccepted phases placed unplaced
  pub after : State
  pub serial : Serial P size budget opening (map call_of placed) (map answer_of placed) after
