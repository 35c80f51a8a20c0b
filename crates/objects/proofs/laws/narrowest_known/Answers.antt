use Rattle.objects.proofs.NarrowestTypes as narrowest
use Rattle.objects.proofs.laws.narrowest_known.Goals as goal

pub returns : goal.returns
returns c P S k src T typing narrow = narrowest.narrowest_known P S k src T typing narrow
