-- Rewritten classes together mean the rewritten program.
use Rattle.std.specs.Prelude.{◌≡◌, List, Some, Ok}
use Rattle.std.specs.List.{AllByRecursion}
use Rattle.jmodel.specs.format.ClassFile.{ClassFile}
use Rattle.objects.specs.semantics.Program.{Program}
use Rattle.objects.specs.typing.Typing.{Table}
use Rattle.objects.specs.linking.Linking.{linking}
use Rattle.objects.specs.laws.LinkingLaw.{AreRead}
use Rattle.objects.specs.rewriting.Relinking.{relinked}
use Rattle.objects.specs.rewriting.Rewriting.{rewritten}
use Rattle.rewriter.specs.Asked.{AreFiled}
use Rattle.rewriter.specs.RewrittenClasses.{rewritten_folder}

-- The rewriting of a folder's classes, read again over their program, is the rewritten program.
abbrev pub MeaningLaw : Type 0
MeaningLaw = (cs news : List ClassFile) (P : Program) (Ts : List Table) → AreRead cs → AllByRecursion AreFiled cs → linking cs ≡ Ok (Some P) → rewritten_folder cs P Ts ≡ Ok news
    → relinked P cs news ≡ Some (rewritten P Ts)
