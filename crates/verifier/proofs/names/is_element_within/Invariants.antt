use Rattle.std.proofs.Common.{◌≡◌, drop}
use Rattle.objects.specs.typing.TypeOrder.{is_element_within}
use Rattle.verifier.proofs.names.is_element_within.Given as goal

abbrev pub invariant-loop-i : goal.invariant-loop-i
invariant-loop-i l = is_element_within l.program l.narrow l.wide ≡ is_element_within l.program (drop l.i l.narrow) (drop l.i l.wide)
