use Rattle.objects.proofs.Upward.{upward_law}
use Rattle.objects.proofs.linking_law.upward_law.Goals as goal

pub returns : goal.returns
returns c = upward_law
