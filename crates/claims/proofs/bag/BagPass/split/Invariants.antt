use Rattle.std.proofs.Common.{◌+◌}
use Rattle.claims.proofs.bag.BagPass.split.Given as goal

abbrev pub ghosts-split_as : goal.ghosts-split_as
ghosts-split_as a = record { count = a.b.now.length + 1 }
