use Rattle.std.proofs.Common.{rules}
use Rattle.tx_table.proofs.ReadSteps.{begins}
use Rattle.tx_table.proofs.Snapshots.{snapshot}
use Rattle.tx_table.proofs.shared.Pass.begin_as.Goals as goal

pub load-self-requires : goal.load-self-requires
load-self-requires g c = (search rules, search rules, begins _ _ _ _ g.G.Beginning.says (λ s r b mine live. c.requires.tells b (snapshot _ s r _ b mine live)) g.G.Beginning.call c.requires.free.0 c.requires.free.1)
