use Rattle.std.proofs.Common.{◌≡◌, drop}
use Rattle.verifier.specs.Check.{covers_each}
use Rattle.verifier.specs.Search.{each_to}
use Rattle.verifier.proofs.checking.covers_ways.Given as goal

abbrev pub invariant-loop-to : goal.invariant-loop-to
invariant-loop-to l = covers_each l.program l.method l.typing (each_to l.places l.left) ≡ covers_each l.program l.method l.typing (each_to (drop l.to-index l.places) l.left)
