-- A method of an original program, with what its class's file has of it, and a typing of it.
use Rattle.jmodel.specs.format.ClassFile.{Member, ClassFile}
use Rattle.objects.specs.semantics.Program.{Method, Program}
use Rattle.objects.specs.typing.Typing.{Table}

-- The class's file is as it was read. A method without code has a table without types.
pub record Original : Type 0 where
  pub program : Program
  pub class : ClassFile
  pub member : Member
  pub method : Method
  pub table : Table
