use Rattle.std.proofs.Common.{rules, arith, mod-lt}
use Rattle.tx_table.proofs.ReadSteps.{rechecks}
use Rattle.tx_table.proofs.Snapshots.{snapshot}
use Rattle.tx_table.proofs.shared.Pass.recheck_as.Goals as goal

pub load-word-requires : goal.load-word-requires
load-word-requires g c = (search rules, search rules, rechecks _ _ _ _ g.G.Checking.says (λ s r b mine live. c.requires.tells b (snapshot _ s r _ b mine live)) c.args.a c.requires.looked.0 c.requires.looked.1 (mod-lt c.args.a (omega arith)) c.requires.looked.2)
