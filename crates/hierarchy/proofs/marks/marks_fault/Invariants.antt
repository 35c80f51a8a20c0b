use Rattle.std.proofs.Common.{◌≡◌, drop}
use Rattle.objects.specs.linking.Faults.{mark_fault, first_fault}
use Rattle.objects.specs.linking.Classes.{Declared}
use Rattle.hierarchy.proofs.marks.marks_fault.Given as goal

-- the methods before have no fault
abbrev pub invariant-loop-method : goal.invariant-loop-method
invariant-loop-method l = first_fault (λ (k : Declared). mark_fault k.class k.member) (drop l.method-index l.methods) ≡ first_fault (λ (k : Declared). mark_fault k.class k.member) l.methods
