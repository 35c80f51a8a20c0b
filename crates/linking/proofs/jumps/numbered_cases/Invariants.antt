use Rattle.std.proofs.Common.{◌≡◌, drop}
use Rattle.objects.specs.linking.Each.{each}
use Rattle.objects.specs.linking.Code.{numbered_case}
use Rattle.hierarchy.proofs.Each.{with_front}
use Rattle.linking.proofs.jumps.numbered_cases.Given as goal

-- what was collected, and what is still collected
abbrev pub invariant-loop-case : goal.invariant-loop-case
invariant-loop-case l = with_front l.numbered.items (each (numbered_case l.code) (drop l.case-index l.cases)) ≡ each (numbered_case l.code) l.cases
