use Rattle.std.proofs.Common.{◌≡◌, ◌++◌, drop}
use Rattle.std.specs.Prelude.{filter}
use Rattle.objects.specs.semantics.Program.{method_at}
use Rattle.objects.specs.linking.Linking.{is_initialiser_of}
use Rattle.heap_layout.proofs.starting.push_initialisers.Given as goal

-- the numbers so far, and those that are still put
abbrev pub invariant-loop-number : goal.invariant-loop-number
invariant-loop-number l =
    l.found.items ++ filter (λ m. is_initialiser_of l.name (method_at l.program m)) (drop l.number-index l.numbers) ≡ l.fn.found.items ++ filter (λ m. is_initialiser_of l.name (method_at l.program m)) l.numbers
