-- Calls of original methods, one after another.
use Rattle.std.specs.Prelude.{◌≡◌, ℕ, List, [], ◌∷◌}
use Rattle.jmodel.specs.declared.value.Answer.{Answer}
use Rattle.objects.specs.semantics.Program.{Program}
use Rattle.objects.specs.semantics.State.{State}
use Rattle.objects.specs.semantics.Call.{Calls}
use Rattle.jmodel.specs.history.History.{Call}
use Rattle.objects.specs.history.Meaning.{region_of}

-- The calls, each run alone from the state that the ones before it left, give these answers and leave the last state; a region has size words.
abbrev pub Serial : Program → ℕ → ℕ → State → List Call → List Answer → State → Type 0
Serial P size budget σ [] [] τ = τ ≡ σ
Serial P size budget σ (c ∷ cs) (x ∷ xs) τ = (ρ : State) × Calls P budget (region_of size c) c.method c.args σ x ρ × Serial P size budget ρ cs xs τ
Serial P size budget σ cs xs τ = ⊥
