use Rattle.std.proofs.Common.{◌≡◌, ◌∷◌, Some, None, replicate}
use Rattle.objects.specs.typing.Typing.{first_types}
use Rattle.verifier.proofs.search.Search.start.Given as goal

abbrev pub invariant-loop : goal.invariant-loop
invariant-loop l = l.table.items ≡ Some (first_types l.method) ∷ replicate l.counter None
