use Rattle.std.proofs.Common.{rules}
use Rattle.tx_table.proofs.Splitting.{split_kept}
use Rattle.tx_table.proofs.shared.Pass.split_as.Goals as goal

pub split_seat-seat-requires : goal.split_seat-seat-requires
split_seat-seat-requires g c = let f = c.requires.ready in (
  search rules,
  search rules,
  λ s r at. split_kept _ s r _ _ at g.G.Parting.given f.1 f.3 f.0,
)
