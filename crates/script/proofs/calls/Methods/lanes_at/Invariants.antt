use Rattle.std.proofs.Common.{◌≡◌, map, drop}
use Rattle.script.specs.Json.{each_from}
use Rattle.script.specs.Script.{lane_in}
use Rattle.script.specs.Seen.{values}
use Rattle.script.proofs.Each.{with_front}
use Rattle.script.proofs.calls.Methods.lanes_at.Given as goal

-- what was collected, and what is still collected
abbrev pub invariant-loop-lane : goal.invariant-loop-lane
invariant-loop-lane l = with_front l.lanes.items (each_from (lane_in l.self.classes l.self.program l.path) l.lane (drop l.lane (map values l.lists))) ≡ each_from (lane_in l.self.classes l.self.program l.path) 0 (map values l.lists)
