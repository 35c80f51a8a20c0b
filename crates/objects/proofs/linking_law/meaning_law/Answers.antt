use Rattle.objects.proofs.LinkingMeans.{meaning_law}
use Rattle.objects.proofs.linking_law.meaning_law.Goals as goal

pub returns : goal.returns
returns c = meaning_law
