use Rattle.std.proofs.Common.{◌≡◌, map, drop}
use Rattle.script.specs.Json.{each_from}
use Rattle.script.specs.Script.{lists_of_phase}
use Rattle.script.specs.Seen.{seen, lists}
use Rattle.script.proofs.Each.{with_front}
use Rattle.script.proofs.lists.lists_of_phases.Given as goal

-- what was collected, and what is still collected
abbrev pub invariant-loop-index : goal.invariant-loop-index
invariant-loop-index l = with_front (map lists l.phases.items) (each_from (lists_of_phase l.head.lanes) l.index (drop l.index (map seen l.values))) ≡ each_from (lists_of_phase l.head.lanes) 0 (map seen l.values)
