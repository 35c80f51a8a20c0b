use Rattle.objects.proofs.Returns.{returns as all_return}
use Rattle.objects.proofs.serial_law.return_law.Goals as goal

pub returns : goal.returns
returns c = all_return
