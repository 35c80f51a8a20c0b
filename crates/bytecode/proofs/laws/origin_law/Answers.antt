use Rattle.bytecode.proofs.OriginLaws.{origin_is}
use Rattle.bytecode.proofs.laws.origin_law.Goals as goal

pub returns : goal.returns
returns c = origin_is
