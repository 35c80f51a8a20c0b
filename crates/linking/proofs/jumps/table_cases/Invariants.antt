use Rattle.std.proofs.Common.{◌≡◌, ◌++◌, drop}
use Rattle.objects.specs.linking.Code.{table_cases}
use Rattle.linking.proofs.jumps.table_cases.Given as goal

-- the cases so far, and those that are still to come
abbrev pub invariant-loop-target : goal.invariant-loop-target
invariant-loop-target l = l.cases.items ++ table_cases l.key (drop l.target-index l.targets) ≡ table_cases l.low l.targets
