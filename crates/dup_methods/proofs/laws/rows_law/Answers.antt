use Rattle.dup_methods.proofs.RowsProof.{rows_are}
use Rattle.dup_methods.proofs.laws.rows_law.Goals as goal

pub returns : goal.returns
returns c = rows_are
