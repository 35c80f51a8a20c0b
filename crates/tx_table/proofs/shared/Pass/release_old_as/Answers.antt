use Rattle.std.proofs.Common.{rules}
use Rattle.tx_table.proofs.Allowed.{gives}
use Rattle.tx_table.proofs.shared.Pass.release_old_as.Goals as goal

pub store-requires : goal.store-requires
store-requires g c = (search rules, search rules, gives _ _ _ _ c.args.stripe c.args.word g.G.Keeping.kept c.requires.ready.0 c.requires.ready.1 c.requires.ready.2 c.requires.ready.3)
