use Rattle.objects.proofs.TrapsLaw as law
use Rattle.objects.proofs.laws.prefix_traps.Goals as goal

pub returns : goal.returns
returns c = law.prefix_traps
