use Rattle.std.proofs.Common.{◌≡◌, ◌++◌, map, take}
use Rattle.std.specs.List.{join_with_byte}
use Rattle.bankgen.specs.Script.{transfer_text}
use Rattle.bankgen.proofs.script.push_calls.Given as goal

-- the calls so far
abbrev pub invariant-loop-i : goal.invariant-loop-i
invariant-loop-i l = l.out ≡ l.initial.out ++ join_with_byte 44 (map transfer_text (take l.i l.calls))
