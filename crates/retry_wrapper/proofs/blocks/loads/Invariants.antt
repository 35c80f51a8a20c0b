use Rattle.std.proofs.Common.{◌≡◌, ◌++◌, drop}
use Rattle.retry_wrapper.specs.Wrappers.{loads_from}
use Rattle.retry_wrapper.proofs.blocks.loads.Given as goal

-- what was put so far, and what is still put
abbrev pub invariant-loop-i : goal.invariant-loop-i
invariant-loop-i l = l.instrs.items ++ loads_from l.i (drop l.i l.parameters) ≡ loads_from 0 l.parameters
