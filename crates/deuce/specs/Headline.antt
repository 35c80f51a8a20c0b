-- What a run promises: its answers are those of the original methods, called one after another.
use Rattle.std.specs.Prelude.{ℕ, List}
use Rattle.std.specs.List.{AllZip}
use Rattle.jmodel.specs.format.ClassFile.{ClassFile}
use Rattle.runner.specs.Headline.{IsRunOf}
use Rattle.deuce.specs.Folder.{IsFileOf}

-- The text is the journal of a run of a script on class files, each given by its bytes and within its limit, that can be run: each call of the
-- script once, in an order that keeps the phases' and each lane's, from the state that the static initialisers leave.
pub record IsRun (class_files : List (List ℕ)) (bytes text : List ℕ) : Type 0 where
  pub files : List ClassFile
  pub are_files : AllZip IsFileOf class_files files
  pub run : IsRunOf files bytes text
