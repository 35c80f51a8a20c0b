-- What the static initialisers of a program leave.
use Rattle.std.specs.Prelude.{ℕ, List, []}
use Rattle.jmodel.specs.declared.value.Answer.{Answer}
use Rattle.objects.specs.semantics.Program.{Program}
use Rattle.objects.specs.semantics.State.{State}
use Rattle.objects.specs.semantics.Call.{Calls}
use Rattle.objects.specs.semantics.Opening.{first_region, Opening, Fails}
use Rattle.driver.specs.declared.memory.Memory.{Memory}
use Rattle.driver.specs.declared.setting_up.SetUpEnd.{SetUpEnd}
use Rattle.driver.specs.declared.setting_up.SetUpEnd.TheVariants as ends
use Rattle.driver.specs.Memory.{Holds}

-- From each state that memory stands for, the method, called alone without arguments, with words of region 0, answers so, and other memory stands for
-- what it leaves. A region has size words.
abbrev pub AnswersAlone : Program → ℕ → ℕ → Memory → ℕ → Answer → Memory → Type 0
AnswersAlone P size budget memory m x left = (σ : State) → Holds P size memory σ → (τ : State) × Calls P budget (first_region size) m [] σ x τ × Holds P size left τ

-- From each state that memory stands for, these initialisers return, and other memory stands for what they leave.
abbrev pub OpensTo : Program → ℕ → ℕ → Memory → List ℕ → Memory → Type 0
OpensTo P size budget memory ms left = (σ : State) → Holds P size memory σ → (τ : State) × Opening P size budget σ ms τ × Holds P size left τ

-- why not all of these initialisers returned: from each state that memory stands for, this is the first that doesn't, and it ends so
abbrev pub EndsSetUp : Program → ℕ → ℕ → Memory → List ℕ → SetUpEnd → Type 0
EndsSetUp P size budget memory ms (ends.Failed m x) = (σ : State) → Holds P size memory σ → Fails P size budget σ ms m x
EndsSetUp P size budget memory ms ends.NoMemory = Unit {0}
