use Rattle.std.proofs.Common.{◌≡◌, map, drop}
use Rattle.script.specs.Seen.{seen}
use Rattle.script.specs.Json.{each_from}
use Rattle.script.specs.Script.{value_in}
use Rattle.script.proofs.Each.{with_front}
use Rattle.script.proofs.arguments.values_of.Given as goal

-- what was collected, and what is still collected
abbrev pub invariant-loop-index : goal.invariant-loop-index
invariant-loop-index l = with_front l.arguments.items (each_from (value_in l.parameters l.path) l.index (drop l.index (map seen l.values))) ≡ each_from (value_in l.parameters l.path) 0 (map seen l.values)
