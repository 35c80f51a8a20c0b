use Rattle.std.proofs.Common.{◌≡◌, ◌++◌, map, take}
use Rattle.objects.specs.typing.TypeOrder.{descriptor_of}
use Rattle.heap_layout.proofs.instances.push_described.Given as goal

-- the descriptors of the classes so far
abbrev pub invariant-loop-class : goal.invariant-loop-class
invariant-loop-class l = l.names.items ≡ l.fn.names.items ++ map (λ n. l.front ++ descriptor_of n) (take l.class-index l.classes)
