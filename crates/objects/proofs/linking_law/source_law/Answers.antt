use Rattle.objects.proofs.SourceProof.{source_law}
use Rattle.objects.proofs.linking_law.source_law.Goals as goal

pub returns : goal.returns
returns c = source_law
