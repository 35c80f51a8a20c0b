-- What `rewrite` promises: the files that it puts are the rewriting of the class files, each of its own, and behind them the helper of arrays.
use Rattle.std.specs.Prelude.{◌≡◌, ℕ, List, [], ◌∷◌, ◌++◌, length, filter, Some, Ok, true, codes}
use Rattle.std.specs.List.{AllZip}
use Rattle.std.specs.Fmt.{decimal}
use Rattle.jmodel.specs.format.ClassFile.{ClassFile}
use Rattle.jmodel.specs.format.ClassRules.{Spells}
use Rattle.objects.specs.linking.Members.{own_name}
use Rattle.objects.specs.linking.Superclasses.{class_named}
use Rattle.objects.specs.linking.Classes.{in_order}
use Rattle.jmodel.specs.history.Output.{◌and◌, line}
use Rattle.objects.specs.semantics.Program.{Method, Program, method_at, has_code}
use Rattle.objects.specs.history.Journal.{is_marked}
use Rattle.objects.specs.typing.Typing.{Table, IsTypable}
use Rattle.objects.specs.rewriting.Rewriting.{rewritten}
use Rattle.objects.specs.rewriting.Relinking.{relinked}
use Rattle.array_helper.specs.Helper.{helper_file}
use Rattle.program_typing.specs.Tables.{AreTables}
use Rattle.runner.specs.Headline.{IsRunnable}
use Rattle.deuce.specs.Folder.{IsFileOf}

-- what is printed: how many class files the folder has, how many of their methods are taken, and how many are marked
abbrev pub counts_text : ℕ → ℕ → ℕ → List ℕ
counts_text classes taken marked =
    line (codes "classes" and decimal classes) ++ line (codes "taken" and decimal taken) ++ line (codes "atomic" and decimal marked)

-- how many methods of a program are taken, which are all of them, and how many of them are marked
pub record AreCountsOf (P : Program) (taken marked : ℕ) : Type 0 where
  pub all : taken ≡ length P.methods
  pub atomic : marked ≡ length (filter is_marked P.methods)

-- New bytes are a class file's own: of rewritten classes they spell the one that has the name of the file's class.
pub record IsNewOf (instrumented : List ClassFile) (file : ClassFile) (new : List ℕ) : Type 0 where
  pub class : ClassFile
  pub named : class_named instrumented (own_name file) ≡ Some class
  pub spelled : Spells new class

-- New bytes spell the last of rewritten classes, which is the helper of arrays.
pub record IsNewHelper (instrumented : List ClassFile) (new : List ℕ) : Type 0 where
  pub front : List ClassFile
  pub class : ClassFile
  pub last : instrumented ≡ front ++ class ∷ []
  pub helper : helper_file ≡ Ok class
  pub spelled : Spells new class

-- each method of a program that has code has a typing
abbrev pub AreTypable : Program → Type 0
AreTypable P = (m : ℕ) (k : Method) → method_at P m ≡ Some k → has_code (Some k) ≡ true → IsTypable P k

-- New bytes, some for each class file and those of the helper, spell the rewriting of class files that can be run, each within its limit. By whichever
-- narrowest typings, it means the rewritten program, each of whose methods that has code has a typing too.
pub record IsRewriting (class_files news : List (List ℕ)) (helper : List ℕ) (taken marked : ℕ) : Type 0 where
  pub files : List ClassFile
  pub are_files : AllZip IsFileOf class_files files
  pub program : Program
  pub runnable : IsRunnable files program
  pub spelled : AllZip (IsNewOf runnable.instrumented) files news
  pub new_helper : IsNewHelper runnable.instrumented helper
  pub means : (Ts : List Table) → AreTables program Ts → relinked program (in_order files) runnable.instrumented ≡ Some (rewritten program Ts)
  pub stays_typed : (Ts : List Table) → AreTables program Ts → AreTypable (rewritten program Ts)
  pub counts : AreCountsOf program taken marked

-- Class files can be rewritten: they are what can be run.
abbrev pub CanRewrite : List ClassFile → Type 0
CanRewrite files = (P : Program) × IsRunnable files P
