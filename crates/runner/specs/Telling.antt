-- What the gates of a run are told of its calls.
use Rattle.std.specs.Prelude.{◌≡◌, ℕ, List, length, map, Option, Some}
use Rattle.jmodel.specs.format.ClassFile.{ClassFile}
use Rattle.jmodel.specs.history.Output.{journal_text}
use Rattle.objects.specs.declared.event.Event.{Event}
use Rattle.objects.specs.linking.Classes.{in_order}
use Rattle.objects.specs.semantics.Program.{Program}
use Rattle.session.specs.Rule.{IsReady}
use Rattle.session.specs.declared.record.Record.{Record}
use Rattle.script.specs.Script.{Script, IsScript}
use Rattle.driver.specs.declared.journal.Journal.{Journal}
use Rattle.driver.specs.declared.memory.Limits.{Limits}
use Rattle.driver.specs.Telling.{TellsScript}
use Rattle.runner.specs.Headline.{linked_files}
use Rattle.runner.specs.Lines.{line_in}

-- what a script allows each call
abbrev pub limits_of : Script → Limits
limits_of s = record { budget = s.budget; attempts = s.attempts; size = s.region }

-- The gates were told the events of these placed calls of a script of classes, run on the rewriting of their program: each gate those of its lane's calls.
pub record TellsCalls (cs : List ClassFile) (bytes : List ℕ) (P : Program) (placed : List Record) (before after : List (Option (List Event))) : Type 0 where
  pub script : Script
  pub is_script : IsScript cs P bytes script
  pub rewriting : Program
  pub ready : IsReady P rewriting
  pub told : TellsScript rewriting (limits_of script) script.phases placed before after

-- the same of the calls that are kept of a run
abbrev pub TellsKept : List ClassFile → List ℕ → Program → Journal → List (Option (List Event)) → List (Option (List Event)) → Type 0
TellsKept cs bytes P kept before after = TellsCalls cs bytes P kept.placed.items before after

-- The text is the journal of calls of a run of a script on class files, and the gates were told of those that are placed.
pub record TellsRunOf (files : List ClassFile) (bytes text : List ℕ) (before after : List (Option (List Event))) : Type 0 where
  pub program : Program
  pub links : linked_files files ≡ Some program
  pub placed : List Record
  pub unplaced : List Record
  pub is_text : text ≡ journal_text (map (line_in program) placed) (map (line_in program) unplaced)
  pub told : TellsCalls (in_order files) bytes program placed before after

-- so many calls of a run are placed, and the gates were told of them
pub record TellsCountsOf (files : List ClassFile) (bytes : List ℕ) (count : ℕ) (before after : List (Option (List Event))) : Type 0 where
  pub program : Program
  pub links : linked_files files ≡ Some program
  pub placed : List Record
  pub count_is : count ≡ length placed
  pub told : TellsCalls (in_order files) bytes program placed before after
