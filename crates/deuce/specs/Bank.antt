-- What `bank` promises, and why it makes no run.
use Rattle.std.specs.Prelude.{◌≡◌, ◌⊎◌, ℕ, List, length, Option, Some, None, Ok, Err}
use Rattle.jmodel.specs.declared.refusal.Refusal.{Refusal}
use Rattle.jmodel.specs.declared.value.Answer.{Answer}
use Rattle.jmodel.specs.format.ClassFile.{ClassFile}
use Rattle.jmodel.specs.history.Schedule.{Made}
use Rattle.objects.specs.semantics.Program.{Program}
use Rattle.bankgen.specs.declared.figures.Figures.{Figures}
use Rattle.script.specs.declared.head.EngineKind.{EngineKind}
use Rattle.script.specs.declared.head.EngineKind.TheVariants.{Tl2}
use Rattle.deuce.specs.Command.{engine_word}
use Rattle.deuce.specs.declared.words.BankWords.{BankWords}
use Rattle.bankgen.specs.Summary.{summary_text}
use Rattle.bankgen.specs.Workload.{workload}
use Rattle.runner.specs.Headline.{AreCallsOfRun, CanRun, IsRunnable, answer_in}
use Rattle.runner.specs.Faults.{IsBadProgram, IsUntypable, IsBadScript, IsUnopened}

-- the classes and the script of a bank of these numbers
abbrev pub IsWorkload : Figures → List ClassFile → List ℕ → Type 0
IsWorkload f files script = workload f.seed f.accounts f.calls f.lanes ≡ Ok (files, script)

-- one of these numbers is outside its limits, as the refusal says; it is the first
abbrev pub IsOutside : Figures → Refusal → Type 0
IsOutside f r = workload f.seed f.accounts f.calls f.lanes ≡ Err r

-- of the classes and the script of a bank this holds
abbrev pub OfBank : Figures → (List ClassFile → List ℕ → Type 0) → Type 0
OfBank f Holding = (files : List ClassFile) × (script : List ℕ) × IsWorkload f files script × Holding files script

-- the engine of a bank's run: the one that is named, or else that of its script, which names none
abbrev pub engine_of : Option EngineKind → EngineKind
engine_of None = Tl2
engine_of (Some e) = e

-- The text is the summary of a run of a bank's script on its classes, which can be run, as `run` makes runs; the total is the call of phase 1.
pub record IsSummaryOf (b : BankWords) (text : List ℕ) : Type 0 where
  pub files : List ClassFile
  pub script : List ℕ
  pub made : IsWorkload b.figures files script
  pub program : Program
  pub placed : List Made
  pub unplaced : List Made
  pub are_calls : AreCallsOfRun files script program placed unplaced
  pub is_text : text ≡ summary_text b.figures (engine_word (engine_of b.engine)) (length placed) (length unplaced) (answer_in 1 placed)
  pub lawful : IsRunnable files program

-- why a bank is refused: one of its numbers is outside its limits, or `run` would refuse its classes so
abbrev pub IsBadBank : Figures → Refusal → Type 0
IsBadBank f r = IsOutside f r ⊎ OfBank f (λ files script. IsBadProgram r files)

-- the same of the other causes that a run of its script on its classes may have
abbrev pub IsUntypableBank : Figures → Refusal → Type 0
IsUntypableBank f r = OfBank f (λ files script. IsUntypable r files)

abbrev pub IsBadBankScript : Figures → Refusal → Type 0
IsBadBankScript f r = OfBank f (λ files script. IsBadScript script r files)

abbrev pub IsUnopenedBank : Figures → List ℕ → Answer → Type 0
IsUnopenedBank f name x = OfBank f (λ files script. IsUnopened script name x files)

-- the script of a bank can be run on its classes
abbrev pub CanRunBank : Figures → Type 0
CanRunBank f = OfBank f CanRun
