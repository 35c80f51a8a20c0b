use Rattle.objects.proofs.Regions as regions
use Rattle.objects.proofs.serial_law.region_law.Goals as goal

pub returns : goal.returns
returns c = regions.keeps_region
