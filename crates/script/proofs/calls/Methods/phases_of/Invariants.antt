use Rattle.std.proofs.Common.{◌≡◌, map, drop}
use Rattle.script.specs.Json.{each_from}
use Rattle.script.specs.Script.{phase_of}
use Rattle.script.specs.Seen.{lists}
use Rattle.script.proofs.Each.{with_front}
use Rattle.script.proofs.calls.Methods.phases_of.Given as goal

-- what was collected, and what is still collected
abbrev pub invariant-loop-index : goal.invariant-loop-index
invariant-loop-index l = with_front l.phases.items (each_from (phase_of l.self.classes l.self.program l.lanes) l.index (drop l.index (map lists l.lists))) ≡ each_from (phase_of l.self.classes l.self.program l.lanes) 0 (map lists l.lists)
