use Rattle.objects.proofs.FolderTypes.{types_law}
use Rattle.objects.proofs.linking_law.types_law.Goals as goal

pub returns : goal.returns
returns c = types_law
