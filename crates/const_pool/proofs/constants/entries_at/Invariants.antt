use Rattle.std.proofs.Common.{◌≡◌, ◌-◌, false, length}
use Rattle.jmodel.specs.format.Reading.{items_at}
use Rattle.jmodel.specs.format.PoolReading.{scan_at}
use Rattle.const_pool.proofs.Loops.{with_front}
use Rattle.const_pool.proofs.constants.entries_at.Given as goal

abbrev pub invariant-loop-i : goal.invariant-loop-i
invariant-loop-i l =
    (with_front l.entries.items (items_at (scan_at l.bytes) (l.last - l.i) (record { left = l.last - l.i; due = l.due; at = l.at })) ≡ items_at (scan_at l.bytes) l.last (record { left = l.last; due = false; at = l.start })) × (length l.entries.items ≡ l.i)
