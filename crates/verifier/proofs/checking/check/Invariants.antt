use Rattle.std.proofs.Common.{◌≡◌, drop}
use Rattle.verifier.specs.Check.{keeps_from}
use Rattle.verifier.proofs.checking.check.Given as goal

abbrev pub invariant-loop-pc : goal.invariant-loop-pc
invariant-loop-pc l = keeps_from l.program l.code l.typing 0 l.typing ≡ keeps_from l.program l.code l.typing l.pc (drop l.pc l.typing)
