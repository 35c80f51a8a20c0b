use Rattle.std.proofs.Common.{◌≡◌, ◌++◌, map, take}
use Rattle.objects.specs.linking.Layout.{array_row}
use Rattle.heap_layout.proofs.rows.push_array_rows.Given as goal

-- the types of the arrays so far
abbrev pub invariant-loop-name : goal.invariant-loop-name
invariant-loop-name l = l.rows.items ≡ l.fn.rows.items ++ map (array_row l.hierarchy) (take l.name-index l.names)
