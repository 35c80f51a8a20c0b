-- A legal history of explained entries is the calls of the original methods, one after another.
use Rattle.std.specs.Prelude.{◌≡◌, ℕ, List, map}
use Rattle.std.specs.List.{AllByRecursion}
use Rattle.objects.specs.semantics.Program.{Program}
use Rattle.objects.specs.semantics.State.{State}
use Rattle.jmodel.specs.history.History.{Entry, Words, AreEntries, memory_after, used_after}
use Rattle.objects.specs.history.Meaning.{Represents, Explains}
use Rattle.objects.specs.semantics.Serial.{Serial}

-- the state's used words are these
abbrev pub HasUsed : State → (ℕ → ℕ) → Type 0
HasUsed σ used = (region : ℕ) → σ.used region ≡ used region

-- The calls of the entries, each run alone from what those before it left, give the entries' answers; the words that the
-- entries leave stand for the state that the calls leave, with the used words of the entries.
pub record IsSerial (P : Program) (size budget : ℕ) (h : List Entry) (words : Words) (σ : State) : Type 0 where
  pub after : State
  pub serial : Serial P size budget σ (map (λ (e : Entry). e.call) h) (map (λ (e : Entry). e.answer) h) after
  pub represents : Represents P size (memory_after h words) after
  pub used : (region : ℕ) → after.used region ≡ used_after h region (σ.used region)

abbrev pub SerialLaw : Type 0
SerialLaw = (P : Program) (size budget : ℕ) (h : List Entry) (words : Words) (used : ℕ → ℕ) (σ : State) → Represents P size words σ
    → HasUsed σ used → AreEntries words used h → AllByRecursion (Explains P size budget) h → IsSerial P size budget h words σ
