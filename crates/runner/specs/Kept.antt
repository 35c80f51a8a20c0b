-- What is kept of the calls of a run.
use Rattle.std.specs.Prelude.{◌≡◌, ℕ, List, [], ◌∷◌, map, nat_eq, if◌then◌else◌}
use Rattle.jmodel.specs.declared.value.Answer.{Answer}
use Rattle.jmodel.specs.declared.value.Answer.TheVariants.{NoMemory}
use Rattle.jmodel.specs.format.ClassFile.{ClassFile}
use Rattle.jmodel.specs.history.History.{Told}
use Rattle.objects.specs.semantics.Program.{Program}
use Rattle.session.specs.declared.record.Record.{Record}
use Rattle.session.specs.Lane.{record_of}
use Rattle.driver.specs.declared.journal.Journal.{Journal}
use Rattle.driver.specs.Runs.{made_of}
use Rattle.runner.specs.Headline.{AreCallsOfRun, IsRunnable}

-- what is kept are the calls of a run of a script on class files, which mean a program and can be run
pub record AreOfRun (files : List ClassFile) (bytes : List ℕ) (P : Program) (kept : Journal) : Type 0 where
  pub placed : List Told
  pub unplaced : List Told
  pub placed_are : kept.placed.items ≡ map record_of placed
  pub unplaced_are : kept.unplaced.items ≡ map record_of unplaced
  pub are_calls : AreCallsOfRun files bytes P (map made_of placed) (map made_of unplaced)
  pub lawful : IsRunnable files P

-- how the first of the calls that is of this phase ended; where there is none, it ran out of memory
abbrev pub answer_kept : ℕ → List Record → Answer
answer_kept phase [] = NoMemory
answer_kept phase (r ∷ rs) = if nat_eq r.phase phase then r.answer else answer_kept phase rs
