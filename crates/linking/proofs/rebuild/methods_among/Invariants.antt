use Rattle.std.proofs.Common.{◌≡◌, drop, Bool}
use Rattle.objects.specs.linking.Each.{each}
use Rattle.objects.specs.linking.Classes.{Declared}
use Rattle.hierarchy.proofs.Each.{with_front}
use Rattle.linking.specs.Relinking.{meaning_among}
use Rattle.linking.proofs.rebuild.methods_among.Given as goal

-- what was collected, and what is still collected
abbrev pub invariant-loop-method : goal.invariant-loop-method
invariant-loop-method l =
    with_front l.built.items (each (λ (p : Declared × Bool). meaning_among l.scope.names.now l.scope.numbering.now l.scope.bases.now p.1 p.0) (drop l.method-index l.methods))
    ≡ each (λ (p : Declared × Bool). meaning_among l.scope.names.now l.scope.numbering.now l.scope.bases.now p.1 p.0) l.methods
