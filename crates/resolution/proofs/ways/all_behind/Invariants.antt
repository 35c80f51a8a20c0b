use Rattle.std.proofs.Common.{◌++◌, map}
use Rattle.resolution.specs.Ways.{IsTable, entry_at}
use Rattle.resolution.proofs.ways.all_behind.Given as goal

-- the lists so far
abbrev pub invariant-loop-place : goal.invariant-loop-place
invariant-loop-place l = IsTable (λ p. entry_at (map (λ e. e.items) l.first) p ++ entry_at (map (λ e. e.items) l.others) p) l.place (map (λ e. e.items) l.next.items)
