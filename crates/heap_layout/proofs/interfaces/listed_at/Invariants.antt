use Rattle.std.proofs.Common.{◌≡◌, ◌++◌, map, drop}
use Rattle.resolution.specs.Ways.{classes_at}
use Rattle.heap_layout.proofs.Above.{interfaces_of}
use Rattle.heap_layout.proofs.interfaces.listed_at.Given as goal

-- the names so far, and those that are still put
abbrev pub invariant-loop-place : goal.invariant-loop-place
invariant-loop-place l = map (λ t. t.now) l.names.items ++ interfaces_of (classes_at l.places (drop l.place-index l.way)) ≡ interfaces_of (classes_at l.places l.way)
