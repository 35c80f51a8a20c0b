use Rattle.objects.proofs.RewritingLaws as rewriting
use Rattle.objects.proofs.laws.soundness.Goals as goal

pub returns : goal.returns
returns c = rewriting.soundness
