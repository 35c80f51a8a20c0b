use Rattle.annotations.proofs.MarkLaws.{mark_law_holds}
use Rattle.annotations.proofs.laws.mark_law.Goals as goal

pub returns : goal.returns
returns c = mark_law_holds
