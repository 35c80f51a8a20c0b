use Rattle.annotations.proofs.MarkLaws.{attribute_law_holds}
use Rattle.annotations.proofs.laws.attribute_law.Goals as goal

pub returns : goal.returns
returns c = attribute_law_holds
