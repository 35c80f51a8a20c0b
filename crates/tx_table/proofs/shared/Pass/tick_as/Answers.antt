use Rattle.std.proofs.Common.{rules}
use Rattle.tx_table.proofs.Allowed.{ticks}
use Rattle.tx_table.proofs.shared.Pass.tick_as.Goals as goal

pub fetch_add-requires : goal.fetch_add-requires
fetch_add-requires g c = (search rules, search rules, ticks _ _ _ _ g.G.Writing.due c.requires.ready.0 c.requires.ready.1 c.requires.ready.2 c.args.self.now.tied.7 c.requires.held c.requires.due)
