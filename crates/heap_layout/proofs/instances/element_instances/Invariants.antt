use Rattle.std.proofs.Common.{◌≡◌, ◌++◌, take, drop}
use Rattle.objects.specs.linking.Layout.{element_instances}
use Rattle.heap_layout.proofs.Elements.{behind}
use Rattle.heap_layout.proofs.instances.element_instances.Given as goal

-- the descriptors so far, and those that are still put, behind the brackets so far
abbrev pub invariant-loop-i : goal.invariant-loop-i
invariant-loop-i l = l.names.items ++ behind (take l.i l.descriptor) (element_instances l.hierarchy (drop l.i l.descriptor)) ≡ element_instances l.hierarchy l.descriptor
