use Rattle.std.proofs.Common.{rules, arith, mod-lt}
use Rattle.tx_table.proofs.ReadSteps.{looks_for}
use Rattle.tx_table.proofs.shared.Pass.look_as.Goals as goal

pub load-word-requires : goal.load-word-requires
load-word-requires g c = (search rules, search rules, looks_for _ _ _ _ c.args.a g.G.Looking.address c.requires.told.0 g.G.Looking.newer (mod-lt c.args.a (omega arith)))
