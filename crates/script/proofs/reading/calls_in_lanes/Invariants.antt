use Rattle.std.proofs.Common.{◌≡◌, pos, length, take}
use Rattle.std.specs.Prelude.{sum_by}
use Rattle.script.proofs.reading.calls_in_lanes.Given as goal

abbrev pub invariant-loop-lane : goal.invariant-loop-lane
invariant-loop-lane l = l.count ≡ pos (sum_by length (take l.lane-index l.lanes))
