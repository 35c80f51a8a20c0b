use Rattle.std.proofs.Common.{◌≡◌, ◌++◌, drop}
use Rattle.objects.specs.typing.TypeOrder.{element_read}
use Rattle.verifier.proofs.names.element_read.Given as goal

abbrev pub invariant-loop-i : goal.invariant-loop-i
invariant-loop-i l = l.bytes.items ++ element_read l.program (drop l.i l.name) ≡ element_read l.program l.name
