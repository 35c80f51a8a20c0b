use Rattle.std.proofs.Common.{◌≡◌, ◌++◌, drop}
use Rattle.std.specs.List.{flat_map}
use Rattle.objects.specs.linking.Layout.{made_by}
use Rattle.heap_layout.proofs.made.push_made.Given as goal

-- the types so far, and those that are still put
abbrev pub invariant-loop-i : goal.invariant-loop-i
invariant-loop-i l = l.arrays.items ++ flat_map (made_by l.pool) (drop l.i-index l.instrs) ≡ l.fn.arrays.items ++ flat_map (made_by l.pool) l.instrs
