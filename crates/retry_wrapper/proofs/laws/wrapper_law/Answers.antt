use Rattle.retry_wrapper.proofs.WrapperIs.{wrapper_law_is}
use Rattle.retry_wrapper.proofs.laws.wrapper_law.Goals as goal

pub returns : goal.returns
returns c = wrapper_law_is
