use Rattle.std.proofs.Common.{◌≡◌, drop}
use Rattle.verifier.specs.Check.{covers_each}
use Rattle.verifier.specs.Search.{caught}
use Rattle.verifier.proofs.checking.covers_caught.Given as goal

abbrev pub invariant-loop-entry : goal.invariant-loop-entry
invariant-loop-entry l = covers_each l.program l.method l.typing (caught l.program l.method.catches l.pc l.over.locals l.over.built)
    ≡ covers_each l.program l.method l.typing (caught l.program (drop l.entry-index l.method.catches) l.pc l.over.locals l.over.built)
