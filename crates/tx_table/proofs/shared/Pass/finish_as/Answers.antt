use Rattle.std.proofs.Common.{rules}
use Rattle.tx_table.proofs.Allowed.{finishes}
use Rattle.tx_table.proofs.shared.Pass.finish_as.Goals as goal

pub load-requires : goal.load-requires
load-requires g c = (search rules, search rules, finishes _ _ _ _ g.G.Adding.entry c.requires.ready.1 c.requires.ready.0 c.requires.entry c.args.self.now.tied.7)
