use Rattle.std.proofs.Common.{drop}
use Rattle.bytecode.proofs.TableLaws.{IsFilled}
use Rattle.bytecode.proofs.places.places_of.Given as goal

abbrev pub invariant-loop-b : goal.invariant-loop-b
invariant-loop-b l = IsFilled l.blocks (drop l.b-index l.blocks) l.starts.items l.end l.at
