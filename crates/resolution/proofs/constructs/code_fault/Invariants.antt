use Rattle.std.proofs.Common.{◌≡◌, drop}
use Rattle.objects.specs.linking.Faults.{first_fault}
use Rattle.objects.specs.linking.Constructs.{place_fault}
use Rattle.resolution.proofs.constructs.code_fault.Given as goal

-- the instructions before have no fault
abbrev pub invariant-loop-i : goal.invariant-loop-i
invariant-loop-i l = first_fault (place_fault l.resolver l.method l.coded.code.handlers) (drop l.i-index l.i-items) ≡ first_fault (place_fault l.resolver l.method l.coded.code.handlers) l.coded.instrs
