use Rattle.bytecode.proofs.LaidLaws.{spelled_is}
use Rattle.bytecode.proofs.laws.spelled_law.Goals as goal

pub returns : goal.returns
returns c = spelled_is
