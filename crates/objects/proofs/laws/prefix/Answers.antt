use Rattle.objects.proofs.RewritingLaws as rewriting
use Rattle.objects.proofs.laws.prefix.Goals as goal

pub returns : goal.returns
returns c = rewriting.prefix
