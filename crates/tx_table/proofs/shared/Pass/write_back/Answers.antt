use Rattle.std.proofs.Common.{rules}
use Rattle.tx_table.proofs.Allowed.{writes}
use Rattle.tx_table.proofs.shared.Pass.write_back.Goals as goal

pub store-requires : goal.store-requires
store-requires g c = (search rules, search rules, writes _ _ _ _ c.args.a c.args.v (search rules) c.requires.ready)
