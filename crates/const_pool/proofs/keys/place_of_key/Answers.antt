use Rattle.std.proofs.Common.{◌∙◌}
use Rattle.const_pool.proofs.KeyTests.{found}
use Rattle.const_pool.proofs.keys.place_of_key.Goals as goal

pub returns : goal.returns
returns c = c.copied.ensures ∙ c.get.ensures.value ∙ found c.args.key c.args.keys.now
