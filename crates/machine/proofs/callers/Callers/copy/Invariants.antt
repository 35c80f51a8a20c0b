use Rattle.std.proofs.Common.{◌≡◌, take, reverse}
use Rattle.machine.proofs.callers.Callers.copy.Given as goal

abbrev pub invariant-loop-frame : goal.invariant-loop-frame
invariant-loop-frame l = l.callers ≡ reverse (take l.frame-index l.frame-items)
