use Rattle.std.proofs.Common.{rules, arith, mod-lt}
use Rattle.tx_table.proofs.ReadSteps.{validates_for}
use Rattle.tx_table.proofs.shared.Pass.validate_as.Goals as goal

pub load-word-requires : goal.load-word-requires
load-word-requires g c = (search rules, search rules, validates_for _ _ _ _ c.args.a g.G.Validating.address g.G.Validating.last c.requires.told (mod-lt c.args.a (omega arith)) c.requires.live c.requires.last)
