use Rattle.std.proofs.Common.{◌≡◌}
use Rattle.objects.specs.linking.StaticBases.{base_of}
use Rattle.hierarchy.proofs.InOrder.{seen}
use Rattle.heap_layout.proofs.fields.bases_end.Given as goal

-- where the next base lies
abbrev pub invariant-loop-class : goal.invariant-loop-class
invariant-loop-class l = l.end ≡ base_of (seen l.classes) l.class-index
