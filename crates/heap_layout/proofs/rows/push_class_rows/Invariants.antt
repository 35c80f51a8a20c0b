use Rattle.std.proofs.Common.{◌≡◌, ◌++◌, map, take}
use Rattle.objects.specs.linking.Layout.{class_row}
use Rattle.heap_layout.proofs.rows.push_class_rows.Given as goal

-- the types of the classes so far
abbrev pub invariant-loop-class : goal.invariant-loop-class
invariant-loop-class l = l.rows.items ≡ l.fn.rows.items ++ map (λ c. class_row l.hierarchy c.now) (take l.class-index l.class-items)
