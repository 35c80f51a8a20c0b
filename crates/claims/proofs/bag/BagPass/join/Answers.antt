use Rattle.std.proofs.Common.{rules}
use Rattle.claims.proofs.Keeping.{joins}
use Rattle.claims.proofs.bag.BagPass.join.Goals as goal

pub join_seat-requires : goal.join_seat-requires
join_seat-requires c = (search rules, search rules, search rules, search rules, joins _ _ _ _)
