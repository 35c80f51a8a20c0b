use Rattle.std.proofs.Common.{◌≡◌, map, take}
use Rattle.heap_layout.specs.Made.{methods_make}
use Rattle.heap_layout.proofs.made.all_made.Given as goal

-- the types that the methods so far make
abbrev pub invariant-loop-method : goal.invariant-loop-method
invariant-loop-method l = l.arrays.items ≡ methods_make (map (λ m. m.now) (take l.method-index l.methods))
