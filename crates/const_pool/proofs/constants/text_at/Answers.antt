use Rattle.std.proofs.Common.{refl}
use Rattle.jmodel.specs.format.PoolReading.{text_at}
use Rattle.const_pool.proofs.constants.text_at.Goals as goal

pub returns : goal.returns
unfolding text_at
returns c = rw (c.in_ok-len.ensures, c.in_ok-run.ensures.gives, c.in_ok-from_slice.ensures, ← c.in_default.ensures) refl
