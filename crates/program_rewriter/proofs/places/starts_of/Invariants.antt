use Rattle.std.proofs.Common.{◌≡◌, ◌++◌, drop}
use Rattle.program_rewriter.specs.Places.{starts_from}
use Rattle.program_rewriter.proofs.places.starts_of.Given as goal

-- the places so far, and those that still follow
abbrev pub invariant-loop-pc : goal.invariant-loop-pc
invariant-loop-pc l = l.starts.items ++ starts_from l.at l.pc l.typing (drop l.pc l.method.ops) ≡ starts_from 0 0 l.typing l.method.ops
