use Rattle.std.proofs.Common.{◌≡◌, ◌++◌, drop}
use Rattle.std.specs.Prelude.{filter}
use Rattle.objects.specs.linking.Linking.{numbers_from}
use Rattle.heap_layout.specs.Starting.{is_initialiser_at}
use Rattle.heap_layout.proofs.starting.initialisers.Given as goal

-- the numbers so far, and those that are still put
abbrev pub invariant-loop-number : goal.invariant-loop-number
invariant-loop-number l =
    l.numbers.items ++ filter (is_initialiser_at l.program) (numbers_from l.number (drop l.number l.program.methods)) ≡ filter (is_initialiser_at l.program) (numbers_from 0 l.program.methods)
