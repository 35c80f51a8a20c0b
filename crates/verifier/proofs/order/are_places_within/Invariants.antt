use Rattle.std.proofs.Common.{◌≡◌, drop}
use Rattle.verifier.specs.Order.{are_within}
use Rattle.verifier.proofs.order.are_places_within.Given as goal

abbrev pub invariant-loop-place : goal.invariant-loop-place
invariant-loop-place l = are_within l.program l.narrow l.wide ≡ are_within l.program (drop l.place l.narrow) (drop l.place l.wide)
