use Rattle.std.proofs.Common.{rules}
use Rattle.tx_table.proofs.ReadSteps.{loads_own}
use Rattle.tx_table.proofs.Snapshots.{snapshot}
use Rattle.tx_table.proofs.shared.Pass.load_own_as.Goals as goal

pub load-requires : goal.load-requires
load-requires g c = let own = c.requires.own in (search rules, search rules, loads_own _ _ _ _ g.G.Checking.says (λ s r b mine live. c.requires.tells b (snapshot _ s r _ b mine live)) c.args.a own.2.0 own.0 own.1 own.2.1 own.2.2)
