use Rattle.std.proofs.Common.{◌≡◌, take}
use Rattle.std.specs.List.{flat_map}
use Rattle.bankgen.specs.Code.{bytes_of}
use Rattle.bankgen.proofs.code.bytes.Given as goal

-- the instructions so far
abbrev pub invariant-loop-instruction : goal.invariant-loop-instruction
invariant-loop-instruction l = l.out ≡ flat_map bytes_of (take l.instruction-index l.code)
