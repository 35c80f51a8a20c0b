use Rattle.std.proofs.Common.{◌≡◌, map, take}
use Rattle.heap_layout.proofs.made.sorted.Given as goal

-- the texts so far
abbrev pub invariant-loop-text : goal.invariant-loop-text
invariant-loop-text l = map (λ t. t.now) l.slices.items ≡ take l.text-index l.texts
