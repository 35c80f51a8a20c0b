-- The text up to this place was written.
use Rattle.std.proofs.Common.{◌≡◌, ◌≤◌, ◌-◌, length, take}
use Rattle.std.specs.Io.KnownBytes.{append_known}
use Rattle.deuce.proofs.print.print.Given as goal

abbrev pub invariant-loop-at : goal.invariant-loop-at
invariant-loop-at g l =
    (l.at ≤ length l.text)
    × (g.O.Sink.faults l.fn.out ≤ g.O.Sink.faults l.out)
    × (g.O.Sink.shortages l.fn.out ≤ g.O.Sink.shortages l.out)
    × (g.O.Sink.written l.out ≡ append_known (g.O.Sink.written l.fn.out) (take l.at l.text))

abbrev pub decreases-loop-at : goal.decreases-loop-at
decreases-loop-at g l = length l.text - l.at
