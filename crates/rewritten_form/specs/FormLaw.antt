-- What rewriting gives keeps the rules of class files.
use Rattle.std.specs.Prelude.{◌≡◌, List, Some, Ok}
use Rattle.std.specs.List.{AllByRecursion}
use Rattle.jmodel.specs.format.ClassFile.{ClassFile}
use Rattle.jmodel.specs.format.ClassRules.{IsClassFile}
use Rattle.objects.specs.semantics.Program.{Program}
use Rattle.objects.specs.typing.Typing.{Table}
use Rattle.objects.specs.linking.Linking.{linking}
use Rattle.objects.specs.laws.LinkingLaw.{AreRead}
use Rattle.program_typing.specs.Tables.{AreTables}
use Rattle.rewriter.specs.Asked.{AreFiled}
use Rattle.rewriter.specs.RewrittenClasses.{rewritten_folder}

-- With the narrowest tables of the program, each class that rewriting gives keeps the rules. A name that another table has needn't be one that a class
-- file may have.
abbrev pub FormLaw : Type 0
FormLaw = (cs news : List ClassFile) (P : Program) (Ts : List Table) → AreRead cs → AllByRecursion AreFiled cs → linking cs ≡ Ok (Some P) → AreTables P Ts → rewritten_folder cs P Ts ≡ Ok news → AllByRecursion IsClassFile news
