use Rattle.std.proofs.Common.{◌≡◌, List, length, map}
use Rattle.jmodel.specs.format.ClassFile.{ClassFile}
use Rattle.objects.specs.linking.Resolution.{names_above}
use Rattle.resolution.specs.Ways.{AreListed, AreReached}
use Rattle.resolution.proofs.ways.reached.Given as goal

-- what is reached in the steps so far
abbrev pub invariant-loop-step : goal.invariant-loop-step
invariant-loop-step l = (cs : List ClassFile) → length cs ≡ length l.direct → AreListed cs names_above (map (λ e. e.items) l.direct) → AreReached cs l._step (map (λ e. e.items) l.table.items)
