use Rattle.std.proofs.Common.{◌≡◌, take}
use Rattle.session.specs.Claimed.{calls_at}
use Rattle.driver.proofs.taken.calls_at.Given as goal

abbrev pub invariant-loop-index : goal.invariant-loop-index
invariant-loop-index l = l.taken.items ≡ calls_at l.calls (take l.index-index l.indexes)
