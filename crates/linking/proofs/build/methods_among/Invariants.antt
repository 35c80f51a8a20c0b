use Rattle.std.proofs.Common.{◌≡◌, length, drop, Option, true}
use Rattle.objects.specs.linking.Each.{each}
use Rattle.objects.specs.linking.Code.{Coded}
use Rattle.objects.specs.linking.Classes.{Declared}
use Rattle.objects.specs.linking.Linking.{method_of}
use Rattle.hierarchy.proofs.Each.{with_front}
use Rattle.linking.specs.Numbering.{symbols_among}
use Rattle.linking.proofs.Zipped.{side_by_side}
use Rattle.linking.proofs.build.methods_among.Given as goal

-- what was collected, and what is still collected
abbrev pub invariant-loop-method : goal.invariant-loop-method
invariant-loop-method l =
    with_front l.built.items (each (λ (p : Declared × Option Coded). method_of (symbols_among l.fn.scope.names.now l.fn.scope.numbering.now l.fn.scope.bases.now p.0.class) true p.0.member p.1)
    (drop (length l.yielded) (side_by_side l.fn.methods l.fn.coded)))
    ≡ each (λ (p : Declared × Option Coded). method_of (symbols_among l.fn.scope.names.now l.fn.scope.numbering.now l.fn.scope.bases.now p.0.class) true p.0.member p.1) (side_by_side l.fn.methods l.fn.coded)
