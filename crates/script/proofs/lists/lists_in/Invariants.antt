use Rattle.std.proofs.Common.{◌≡◌, map, drop}
use Rattle.script.specs.Json.{each_from}
use Rattle.script.specs.Script.{list_in}
use Rattle.script.specs.Seen.{seen, values}
use Rattle.script.proofs.Each.{with_front}
use Rattle.script.proofs.lists.lists_in.Given as goal

-- what was collected, and what is still collected
abbrev pub invariant-loop-lane : goal.invariant-loop-lane
invariant-loop-lane l = with_front (map values l.lanes.items) (each_from (list_in l.path) l.lane (drop l.lane (map seen l.values))) ≡ each_from (list_in l.path) 0 (map seen l.values)
