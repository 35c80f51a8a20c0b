use Rattle.std.proofs.Common.{◌≤◌, length, map}
use Rattle.std.specs.List.{flat_map}
use Rattle.resolution.specs.Ways.{IsTable, entry_at}
use Rattle.resolution.proofs.ways.all_joined.Given as goal

-- what stands at the places of the lists so far
abbrev pub invariant-loop-list : goal.invariant-loop-list
invariant-loop-list l =
    (l.list-index ≤ length l.lists) × IsTable (λ p. flat_map (entry_at (map (λ e. e.items) l.table)) (entry_at (map (λ e. e.items) l.lists) p)) l.list-index (map (λ e. e.items) l.next.items)
