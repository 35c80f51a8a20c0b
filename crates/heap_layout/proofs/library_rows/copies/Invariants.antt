use Rattle.std.proofs.Common.{◌≡◌, map, take}
use Rattle.heap_layout.proofs.library_rows.copies.Given as goal

-- copies of the names so far
abbrev pub invariant-loop-name : goal.invariant-loop-name
invariant-loop-name l = l.copied.items ≡ map (λ n. n.now) (take l.name-index l.names)
