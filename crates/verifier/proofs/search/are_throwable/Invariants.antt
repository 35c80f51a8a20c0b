use Rattle.std.proofs.Common.{◌≡◌, drop}
use Rattle.verifier.specs.Search.{are_throwable}
use Rattle.verifier.proofs.search.are_throwable.Given as goal

abbrev pub invariant-loop-entry : goal.invariant-loop-entry
invariant-loop-entry l = are_throwable l.program l.catches l.pc ≡ are_throwable l.program (drop l.entry-index l.catches) l.pc
