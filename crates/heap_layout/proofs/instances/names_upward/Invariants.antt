use Rattle.std.proofs.Common.{◌≡◌, map, take}
use Rattle.objects.specs.linking.Members.{own_name}
use Rattle.heap_layout.proofs.instances.names_upward.Given as goal

-- the names of the classes so far
abbrev pub invariant-loop-class : goal.invariant-loop-class
invariant-loop-class l = l.names.items ≡ map (λ c. own_name c.now) (take l.class-index l.class-items)
