use Rattle.std.proofs.Common.{◌≡◌, ℕ, ◌+◌, ◌-◌, ◌<◌, ◌≤◌, length, get_or}
use Rattle.std.specs.Slots.{slots_items}
use Rattle.tx_table.proofs.opening.copy_heap.Given as goal

abbrev pub invariant-loop-a : goal.invariant-loop-a
invariant-loop-a l = (length l.heap.items ≡ length l.initial.heap.items) × (l.a ≤ length l.heap.items) × ((i : ℕ) → i < l.a → get_or l.heap.items i 0 ≡ get_or (slots_items l.closed.words) (i + 4097) 0)

abbrev pub decreases-loop-a : goal.decreases-loop-a
decreases-loop-a l = length l.heap.items - l.a
