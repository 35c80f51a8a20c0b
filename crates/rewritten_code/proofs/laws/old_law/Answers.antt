use Rattle.rewritten_code.proofs.Rewritten.{old_stays}
use Rattle.rewritten_code.proofs.laws.old_law.Goals as goal

pub returns : goal.returns
returns c P cs ds h r texts i x y e f longer m k taken is = old_stays P cs ds h r texts i x y e f longer m k taken is
