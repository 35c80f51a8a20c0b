-- What a run of a script's calls leaves.
use Rattle.std.specs.Prelude.{◌≡◌, ◌≤◌, ◌<◌, ℕ, List, length, map, true, AllPairs, slice_index}
use Rattle.std.specs.List.{AllByRecursion}
use Rattle.objects.specs.semantics.Program.{Program}
use Rattle.objects.specs.semantics.State.{State}
use Rattle.jmodel.specs.history.History.{Told, comes_first}
use Rattle.objects.specs.history.Meaning.{Represents}
use Rattle.jmodel.specs.history.Schedule.{ScriptPhase, Lanes, Bag, Made, lists_in, script_calls}
use Rattle.tx_core.specs.Serial.{word_in}
use Rattle.session.specs.Rule.{IsCallOf}
use Rattle.session.specs.Lane.{record_of}
use Rattle.driver.specs.declared.memory.Memory.{Memory}
use Rattle.driver.specs.declared.journal.Journal.{Journal}
use Rattle.objects.specs.history.Journal.{IsJournal}
use Rattle.driver.specs.Memory.{Holds}
use Rattle.driver.specs.Over.{StandsBehind}

abbrev pub made_of : Told → Made
made_of t = record { call = t.call; answer = t.answer }

-- a phase has at most 16 lanes; a script with a bag has one or more
abbrev pub HasLanes : ScriptPhase → Type 0
HasLanes (Lanes ls) = length ls ≤ 16
HasLanes (Bag lanes cs) = (1 ≤ lanes) × (lanes ≤ 16)

-- the calls of a script for a program, of which there aren't too many
pub record AreScripted (P : Program) (phases : List ScriptPhase) : Type 0 where
  pub calls : AllByRecursion (λ (p : ScriptPhase). AllByRecursion (AllByRecursion (IsCallOf P)) (lists_in p)) phases
  pub lanes : AllByRecursion HasLanes phases
  pub few_phases : length phases ≤ 10000
  pub few_calls : length (script_calls 0 (map lists_in phases)) ≤ 100000

-- so many words of region 0, and of each of sixteen lanes' regions, are used in a state
pub record AreUsedIn (used : List ℕ) (σ : State) : Type 0 where
  pub len : length used ≡ 17
  pub each : (region : ℕ) → region < 17 → slice_index used region ≡ σ.used region

-- The journal of the calls of a script, from memory on. The placed ones stand in the order of history: by stamp, an update before readers of the same stamp,
-- then by phase, lane and index. The stamp of each isn't below that of any before it, and is over it where it is an update. The words stand for
-- the state that the calls left, in which so many words of each region are used.
pub record HasRun (P : Program) (size budget : ℕ) (phases : List ScriptPhase) (memory : Memory) (journal : Journal) : Type 0 where
  pub placed : List Told
  pub unplaced : List Told
  pub placed_are : journal.placed.items ≡ map record_of placed
  pub unplaced_are : journal.unplaced.items ≡ map record_of unplaced
  pub in_order : AllPairs (λ s t. comes_first s t ≡ true) placed
  pub behind : AllPairs (λ (s t : Told). StandsBehind s.stamp.at t) placed
  pub is_journal : (σ : State) → Holds P size memory σ → IsJournal P size budget σ phases (map made_of placed) (map made_of unplaced)
  pub leaves : (σ : State) (holds : Holds P size memory σ) → Represents P size (word_in journal.words.items) (is_journal σ holds).after
  pub used : (σ : State) (holds : Holds P size memory σ) → AreUsedIn journal.used.items (is_journal σ holds).after
