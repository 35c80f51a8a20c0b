-- What the rewriting of a program is.
use Rattle.std.specs.Prelude.{◌≡◌, List}
use Rattle.objects.specs.semantics.Program.{Program}
use Rattle.objects.specs.typing.Typing.{Table}
use Rattle.objects.specs.rewriting.Rewriting.{rewritten}
use Rattle.program_typing.specs.Tables.{AreTables}

-- a program is the rewriting of another by its tables of types
pub record IsRewriting (P : Program) (Q : Program) : Type 0 where
  pub tables : List Table
  pub are : AreTables P tables
  pub same : Q ≡ rewritten P tables
