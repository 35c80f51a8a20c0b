use Rattle.bytecode.proofs.LaidLaws.{place_is}
use Rattle.bytecode.proofs.laws.place_law.Goals as goal

pub returns : goal.returns
returns c = place_is
