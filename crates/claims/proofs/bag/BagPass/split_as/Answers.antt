use Rattle.std.proofs.Common.{rules}
use Rattle.claims.proofs.Keeping.{splits}
use Rattle.claims.proofs.bag.BagPass.split_as.Goals as goal

pub split_seat-seat-requires : goal.split_seat-seat-requires
split_seat-seat-requires g c = (search rules, search rules, splits g.G.Sharing.count _ _ c.requires.left)
