use Rattle.dup_methods.proofs.Whole.{ops_are}
use Rattle.dup_methods.proofs.laws.ops_law.Goals as goal

pub returns : goal.returns
returns c = ops_are
