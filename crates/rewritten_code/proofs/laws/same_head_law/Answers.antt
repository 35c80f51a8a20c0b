use Rattle.rewritten_code.proofs.Rewritten.{head_stays}
use Rattle.rewritten_code.proofs.laws.same_head_law.Goals as goal

pub returns : goal.returns
returns c P cs ds h r texts i x y e f longer m inside = head_stays P cs ds h r texts i x y e f longer m inside
