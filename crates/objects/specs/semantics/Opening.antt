-- What a run begins with: the state of the opening words, and then the static initialisers, each run alone (JVM Specification, Java SE 7, section 5.5).
use Rattle.std.specs.Prelude.{◌≡◌, ◌⊎◌, ℕ, List, [], ◌∷◌, Option, Bool, true, false}
use Rattle.jmodel.specs.declared.value.Value.{Value}
use Rattle.jmodel.specs.declared.value.Answer.{Answer}
use Rattle.jmodel.specs.declared.value.Answer.TheVariants.{Returned}
use Rattle.objects.specs.semantics.Program.{Program}
use Rattle.objects.specs.semantics.Region.{Region}
use Rattle.objects.specs.semantics.State.{State}
use Rattle.objects.specs.semantics.Call.{Calls}

-- static initialisers take words of region 0; a region has size words
abbrev pub first_region : ℕ → Region
first_region size = record { number = 0; size = size }

-- These initialisers, each run alone from the state that the ones before it left, return, and leave the last state.
abbrev pub Opening : Program → ℕ → ℕ → State → List ℕ → State → Type 0
Opening P size budget σ [] τ = τ ≡ σ
Opening P size budget σ (m ∷ ms) τ = (v : Option Value) × (ρ : State) × Calls P budget (first_region size) m [] σ (Returned v) ρ × Opening P size budget ρ ms τ

abbrev pub is_return : Answer → Bool
is_return (Returned v) = true
is_return x = false

-- Of these initialisers, each run alone from the state that the ones before it left, this is the first that doesn't return, and it ends so.
abbrev pub Fails : Program → ℕ → ℕ → State → List ℕ → ℕ → Answer → Type 0
Fails P size budget σ [] n x = ⊥
Fails P size budget σ (m ∷ ms) n x =
    ((n ≡ m) × (is_return x ≡ false) × (τ : State) × Calls P budget (first_region size) m [] σ x τ)
    ⊎ ((v : Option Value) × (ρ : State) × Calls P budget (first_region size) m [] σ (Returned v) ρ × Fails P size budget ρ ms n x)

-- Initialisers that all return have none that doesn't.
abbrev pub ReturnLaw : Type 0
ReturnLaw = (P : Program) (size budget : ℕ) (σ τ : State) (ms : List ℕ) (n : ℕ) (x : Answer) → Opening P size budget σ ms τ → Fails P size budget σ ms n x → ⊥
