use Rattle.std.proofs.Common.{◌≡◌, take}
use Rattle.driver.specs.Bags.{as_lanes, lists}
use Rattle.driver.proofs.taken.by_lane.Given as goal

abbrev pub invariant-loop-indexes : goal.invariant-loop-indexes
invariant-loop-indexes l = l.lanes.items ≡ as_lanes l.calls (lists (take l.indexes-index l.taken))
