use Rattle.std.proofs.Common.{Bool, drop}
use Rattle.verifier.specs.Search.{State, Flows, caught}
use Rattle.verifier.proofs.search.Search.flow_caught.Given as goal

-- what is left to flow from here is what is left of all
abbrev pub invariant-loop-entry : goal.invariant-loop-entry
invariant-loop-entry l = (n : State) (b : Bool) → Flows l.program (caught l.program (drop l.entry-index l.catches) l.pc l.over.types.locals l.over.types.built) l.self n b → Flows l.program (caught l.program l.catches l.pc l.over.types.locals l.over.types.built) l.fn.self n b
