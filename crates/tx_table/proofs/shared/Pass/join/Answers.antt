use Rattle.std.proofs.Common.{rules}
use Rattle.tx_table.proofs.Joining.{join_kept}
use Rattle.tx_table.proofs.shared.Pass.join.Goals as goal

pub join_seat-requires : goal.join_seat-requires
join_seat-requires g c = let f = c.requires.free in (
  search rules,
  search rules,
  search rules,
  search rules,
  λ s r at apart there. join_kept _ s r _ _ at _ apart _ there f.1 f.0 f.3 f.2 c.args.self.now.tied.7,
)
