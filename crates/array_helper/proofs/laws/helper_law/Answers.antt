use Rattle.array_helper.proofs.HelperIs.{helper_is}
use Rattle.array_helper.proofs.laws.helper_law.Goals as goal

pub returns : goal.returns
returns c = helper_is
