use Rattle.dup_methods.proofs.Little.{little_is}
use Rattle.dup_methods.proofs.laws.little_law.Goals as goal

pub returns : goal.returns
returns c = little_is
