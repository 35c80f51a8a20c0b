use Rattle.std.proofs.Common.{◌≡◌, ◌<◌, ℕ, map}
use Rattle.resolution.specs.Ways.{entry_at}
use Rattle.resolution.proofs.ways.are_same.Given as goal

-- the lists so far are the same
abbrev pub invariant-loop-place : goal.invariant-loop-place
invariant-loop-place l = (p : ℕ) → p < l.place → entry_at (map (λ e. e.items) l.table) p ≡ entry_at (map (λ e. e.items) l.other) p
