use Rattle.objects.proofs.OpeningProof.{opening_law}
use Rattle.objects.proofs.linking_law.opening_law.Goals as goal

pub returns : goal.returns
returns c = opening_law
