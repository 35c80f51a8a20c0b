use Rattle.std.proofs.Common.{◌≡◌, map, take}
use Rattle.heap_layout.specs.Library.{row_with}
use Rattle.heap_layout.proofs.library_rows.rows_with.Given as goal

-- the types of the classes so far
abbrev pub invariant-loop-names : goal.invariant-loop-names
invariant-loop-names l = l.rows.items ≡ map (λ k. row_with (map (λ n. n.now) k.now)) (take l.names-index l.all)
