use Rattle.std.proofs.Common.{map, take}
use Rattle.std.specs.Prelude.{option_copied}
use Rattle.resolution.specs.Catching.{AreCaught}
use Rattle.resolution.proofs.constructs.caught.Given as goal

-- the first unknown class of the entries so far
abbrev pub invariant-loop-entry : goal.invariant-loop-entry
invariant-loop-entry l = AreCaught l.places l.pool (take l.entry-index l.entries) (map option_copied l.names.items)
