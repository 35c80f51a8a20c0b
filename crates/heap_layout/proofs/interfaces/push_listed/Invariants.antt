use Rattle.std.proofs.Common.{◌≡◌, ◌++◌, map, drop}
use Rattle.std.specs.Prelude.{filter}
use Rattle.objects.specs.typing.TypeOrder.{is_class_name}
use Rattle.heap_layout.specs.Instances.{listed}
use Rattle.heap_layout.proofs.interfaces.push_listed.Given as goal

-- the names so far, and those that are still put
abbrev pub invariant-loop-index : goal.invariant-loop-index
invariant-loop-index l =
    map (λ t. t.now) l.names.items ++ filter is_class_name (listed l.pool (drop l.index-index l.indexes)) ≡ map (λ t. t.now) l.fn.names.items ++ filter is_class_name (listed l.pool l.indexes)
