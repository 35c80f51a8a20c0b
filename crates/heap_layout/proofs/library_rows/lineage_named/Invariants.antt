use Rattle.std.proofs.Common.{◌≡◌, map, drop}
use Rattle.heap_layout.specs.Library.{lineage_among}
use Rattle.heap_layout.proofs.library_rows.lineage_named.Given as goal

-- none of those so far is it
abbrev pub invariant-loop-names : goal.invariant-loop-names
invariant-loop-names l = lineage_among l.name (map (λ k. map (λ n. n.now) k.now) (drop l.names-index l.all)) ≡ lineage_among l.name (map (λ k. map (λ n. n.now) k.now) l.all)
