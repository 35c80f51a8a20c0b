use Rattle.std.proofs.Common.{◌≡◌, map, take}
use Rattle.verifier.specs.Flows.{type_at}
use Rattle.verifier.proofs.stack.picked.Given as goal

abbrev pub invariant-loop-place : goal.invariant-loop-place
invariant-loop-place l = l.picked.items ≡ map (type_at l.types) (take l.place-index l.places)
