use Rattle.std.proofs.Common.{map, take}
use Rattle.objects.specs.linking.Classes.{full_name}
use Rattle.hierarchy.specs.Names.{AreFirst}
use Rattle.linking.proofs.numbering.numbers_of_methods.Given as goal

-- the numbers of the methods so far
abbrev pub invariant-loop-number : goal.invariant-loop-number
invariant-loop-number l = AreFirst l.numbers (map (λ m. full_name m.now) (take l.number l.methods))
