-- What the gates of the top call are told.
use Rattle.std.specs.Prelude.{◌≡◌, ℕ, List, Option, map, String}
use Rattle.std.specs.declared.alloc.Global.{Global}
use Rattle.std.specs.List.{AllZip}
use Rattle.jmodel.specs.declared.value.Answer.{Answer}
use Rattle.jmodel.specs.format.ClassFile.{ClassFile}
use Rattle.objects.specs.declared.event.Event.{Event}
use Rattle.bankgen.specs.Summary.{summary_text}
use Rattle.deuce_io.specs.Files.{Files}
use Rattle.runner.specs.Telling.{TellsRunOf, TellsCountsOf}
use Rattle.deuce.specs.Command.{seen_words, run_words, AsksBank, engine_word}
use Rattle.deuce.specs.Bank.{IsWorkload, engine_of}
use Rattle.deuce.specs.Folder.{IsFileOf, Holds, HoldsContents}
use Rattle.deuce.specs.declared.words.BankWords.{BankWords}
use Rattle.deuce.specs.declared.outcome.Outcome.{Outcome}
use Rattle.deuce.specs.declared.outcome.Outcome.TheVariants.{Journal, Summary, Rewritten}

-- what each gate tells
abbrev pub told_by : {G : Type 0} → (G → Option (List Event)) → List G → List (Option (List Event))
told_by told gates = map told gates

-- The text is the journal of a run of the script at a path on the class files of a folder, and the gates were told of it.
pub record TellsJournalOf (files : Option Files) (dir script text : List ℕ) (before after : List (Option (List Event))) : Type 0 where
  pub paths : List (List ℕ)
  pub contents : List (List ℕ)
  pub class_files : HoldsContents files dir paths contents
  pub script_bytes : List ℕ
  pub script_holds : Holds files script script_bytes
  pub read : List ClassFile
  pub are_read : AllZip IsFileOf contents read
  pub told : TellsRunOf read script_bytes text before after

-- The text is the summary of a run of a bank's script on its classes, and the gates were told of its calls.
pub record TellsBankOf (b : BankWords) (text : List ℕ) (before after : List (Option (List Event))) : Type 0 where
  pub files : List ClassFile
  pub script : List ℕ
  pub made : IsWorkload b.figures files script
  pub placed : ℕ
  pub unplaced : ℕ
  pub answer : Answer
  pub is_text : text ≡ summary_text b.figures (engine_word (engine_of b.engine)) placed unplaced answer
  pub told : TellsCountsOf files script placed before after

-- what the gates were told where a command ends so
abbrev pub TellsOutcome : List (String Global) → Option Files → List (Option (List Event)) → List (Option (List Event)) → Outcome → Type 0
TellsOutcome words files before after (Journal text) = (dir : List ℕ) × (script : List ℕ) × (seen_words words ≡ run_words dir script) × TellsJournalOf files dir script text before after
TellsOutcome words files before after (Summary text) = (b : BankWords) × AsksBank words b × TellsBankOf b text before after
TellsOutcome words files before after (Rewritten classes taken marked) = after ≡ before
TellsOutcome words files before after o = Unit {0}
