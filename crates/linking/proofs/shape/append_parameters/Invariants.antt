use Rattle.std.proofs.Common.{◌≡◌, ◌++◌, take}
use Rattle.std.specs.List.{flat_map}
use Rattle.objects.specs.typing.TypeOrder.{place_types}
use Rattle.objects.specs.linking.Layout.{declared_as}
use Rattle.linking.proofs.shape.append_parameters.Given as goal

-- the places of the parameters so far
abbrev pub invariant-loop-t : goal.invariant-loop-t
invariant-loop-t l = l.types.items ≡ l.initial.types.items ++ flat_map (λ t. place_types (declared_as l.folder t)) (take l.t-index l.parameters)
