use Rattle.std.proofs.Common.{rules}
use Rattle.tx_table.proofs.ReadSteps.{extends}
use Rattle.tx_table.proofs.shared.Pass.extend_as.Goals as goal

pub load-self-requires : goal.load-self-requires
load-self-requires g c = (search rules, search rules, extends _ _ _ _ g.G.Extending.whole c.requires.ready.1 c.requires.ready.0 c.requires.whole)
