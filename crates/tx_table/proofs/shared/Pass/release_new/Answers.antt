use Rattle.std.proofs.Common.{rules, ◌*◌, ap}
use Rattle.tx_table.proofs.Allowed.{releases}
use Rattle.tx_table.proofs.shared.Pass.release_new.Goals as goal

pub store-requires : goal.store-requires
store-requires g c = let h = c.requires.ready.3 in (search rules, search rules, releases _ _ _ _ c.args.stripe _ h.0 c.requires.ready.0 c.requires.ready.1 c.requires.ready.2 h.1 (ap (λ t. 2 * t) c.args.self.now.tied.2))
