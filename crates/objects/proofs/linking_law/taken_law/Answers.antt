use Rattle.objects.proofs.TakenLaws.{taken_law}
use Rattle.objects.proofs.linking_law.taken_law.Goals as goal

pub returns : goal.returns
returns c = taken_law
