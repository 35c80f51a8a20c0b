use Rattle.objects.proofs.RewritingLaws as rewriting
use Rattle.objects.proofs.laws.snapshot_soundness.Goals as goal

pub returns : goal.returns
returns c = rewriting.snapshot_soundness
