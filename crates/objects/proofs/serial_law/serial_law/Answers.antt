use Rattle.objects.proofs.SerialProof.{serial_of}
use Rattle.objects.proofs.serial_law.serial_law.Goals as goal

pub returns : goal.returns
returns c = serial_of
