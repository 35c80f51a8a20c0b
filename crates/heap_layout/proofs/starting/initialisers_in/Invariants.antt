use Rattle.std.proofs.Common.{◌≡◌, take}
use Rattle.std.specs.Prelude.{filter}
use Rattle.std.specs.List.{flat_map}
use Rattle.objects.specs.linking.Members.{own_name}
use Rattle.objects.specs.semantics.Program.{method_at}
use Rattle.objects.specs.linking.Linking.{is_initialiser_of, numbers_from}
use Rattle.heap_layout.proofs.starting.initialisers_in.Given as goal

-- the numbers for the classes so far
abbrev pub invariant-loop-class : goal.invariant-loop-class
invariant-loop-class l =
    l.found.items ≡ flat_map (λ c. filter (λ m. is_initialiser_of (own_name c.now) (method_at l.program m)) (numbers_from 0 l.program.methods)) (take l.class-index l.class-items)
