use Rattle.std.proofs.Common.{◌≡◌, map, take}
use Rattle.objects.specs.typing.TypeOrder.{named_by}
use Rattle.heap_layout.proofs.instances.array_instances.Given as goal

-- the names so far
abbrev pub invariant-loop-element : goal.invariant-loop-element
invariant-loop-element l = l.names.items ≡ map named_by (take l.element-index l.element-items)
