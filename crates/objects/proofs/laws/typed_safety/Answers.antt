use Rattle.objects.proofs.Safety as safety
use Rattle.objects.proofs.laws.typed_safety.Goals as goal

pub returns : goal.returns
returns c = safety.safety
