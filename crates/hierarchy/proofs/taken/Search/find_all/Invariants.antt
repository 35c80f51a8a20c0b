use Rattle.std.proofs.Common.{take}
use Rattle.hierarchy.specs.Search.{instrs_call, VisitsOf}
use Rattle.hierarchy.proofs.taken.Search.find_all.Given as goal

-- what the instructions so far call is found
abbrev pub invariant-loop-i : goal.invariant-loop-i
invariant-loop-i l = VisitsOf l.groups (instrs_call l.pool (take l.i-index l.instrs)) l.fn.self l.self
