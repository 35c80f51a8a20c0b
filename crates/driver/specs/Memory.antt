-- Memory between calls, and the states that it stands for.
use Rattle.std.specs.Prelude.{ℕ, zero, suc, List}
use Rattle.objects.specs.semantics.Program.{Program}
use Rattle.objects.specs.semantics.State.{State}
use Rattle.jmodel.specs.history.History.{Entry}
use Rattle.objects.specs.history.Meaning.{Explains}
use Rattle.session.specs.Rule.{IsState}
use Rattle.driver.specs.declared.memory.Memory.{Memory}

-- so many words of region 0 are used, and none of any other
abbrev pub used_at_first : ℕ → ℕ → ℕ
used_at_first used zero = used
used_at_first used (suc region) = 0

-- memory stands for a state; a region has size words
abbrev pub Holds : Program → ℕ → Memory → State → Type 0
Holds P size m σ = IsState P size m.words.items (used_at_first m.used) σ

-- Words, of which so many are used in region 0, stand for a state, and each entry that keeps to a rule is explained by the original program.
pub record AreOfStates (P : Program) (size budget : ℕ) (words : List ℕ) (used : ℕ) (rule : Entry → Type 0) : Type 0 where
  pub state : State
  pub stands : IsState P size words (used_at_first used) state
  pub explained : (e : Entry) → rule e → Explains P size budget e
