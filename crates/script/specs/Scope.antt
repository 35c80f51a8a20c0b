-- What the calls of a script are looked up in.
use Rattle.std.specs.Prelude.{List}
use Rattle.jmodel.specs.format.ClassFile.{ClassFile}
use Rattle.objects.specs.semantics.Program.{Program}

-- classes and their program
pub record Scope : Type 0 where
  pub classes : List ClassFile
  pub program : Program
