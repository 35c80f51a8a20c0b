use Rattle.bytecode.proofs.MovedLaws.{size_same}
use Rattle.bytecode.proofs.laws.size_law.Goals as goal

pub returns : goal.returns
returns c = size_same
