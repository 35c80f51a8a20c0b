use Rattle.std.proofs.Common.{◌∷◌, map}
use Rattle.std.specs.List.{flat_map}
use Rattle.resolution.specs.Ways.{IsTable, entry_at}
use Rattle.resolution.proofs.ways.next_table.Given as goal

-- what is reached from the places so far
abbrev pub invariant-loop-place : goal.invariant-loop-place
invariant-loop-place l = IsTable (λ p. p ∷ flat_map (entry_at (map (λ e. e.items) l.table)) (entry_at (map (λ e. e.items) l.direct) p)) l.place (map (λ e. e.items) l.next.items)
