use Rattle.objects.proofs.FolderOrder.{files_law}
use Rattle.objects.proofs.linking_law.files_law.Goals as goal

pub returns : goal.returns
returns c = files_law
