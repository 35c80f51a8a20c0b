use Rattle.std.proofs.Common.{Bool, drop}
use Rattle.verifier.specs.Search.{State, Flows, each_to}
use Rattle.verifier.proofs.search.Search.flow_each.Given as goal

-- what is left to flow from here is what is left of all
abbrev pub invariant-loop-to : goal.invariant-loop-to
invariant-loop-to l = (n : State) (b : Bool) → Flows l.program (each_to (drop l.to-index l.places) l.out.types) l.self n b → Flows l.program (each_to l.places l.out.types) l.fn.self n b
