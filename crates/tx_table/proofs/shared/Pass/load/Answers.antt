use Rattle.std.proofs.Common.{rules}
use Rattle.tx_table.proofs.ReadSteps.{loads}
use Rattle.tx_table.proofs.shared.Pass.load.Goals as goal

pub load-requires : goal.load-requires
load-requires g c = (search rules, search rules, loads _ _ _ _ c.args.a c.requires.looked.0 c.requires.looked.1)
