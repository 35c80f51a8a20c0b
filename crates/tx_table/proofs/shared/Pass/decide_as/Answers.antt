use Rattle.std.proofs.Common.{rules}
use Rattle.tx_table.proofs.Allowed.{decides}
use Rattle.tx_table.proofs.shared.Pass.decide_as.Goals as goal

pub store-requires : goal.store-requires
store-requires g c = (search rules, search rules, decides _ _ _ _ g.G.Adding.entry c.args.a c.args.v (search rules) c.requires.ready.0 c.requires.ready.1 c.requires.ready.2 c.requires.entry c.requires.safe c.args.self.now.tied.7)
