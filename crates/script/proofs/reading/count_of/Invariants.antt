use Rattle.std.proofs.Common.{◌≡◌, pos, take}
use Rattle.std.specs.Prelude.{sum_by}
use Rattle.script.specs.Script.{calls_of}
use Rattle.script.proofs.reading.count_of.Given as goal

abbrev pub invariant-loop-phase : goal.invariant-loop-phase
invariant-loop-phase l = l.count ≡ pos (sum_by calls_of (take l.phase-index l.phases))
