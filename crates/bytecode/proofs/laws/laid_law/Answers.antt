use Rattle.bytecode.proofs.LaidLaws.{laid_is}
use Rattle.bytecode.proofs.laws.laid_law.Goals as goal

pub returns : goal.returns
returns c = laid_is
