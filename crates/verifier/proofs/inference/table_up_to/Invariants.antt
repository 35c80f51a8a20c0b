use Rattle.verifier.proofs.Infers.{Known}
use Rattle.verifier.proofs.Rooms.{AreLowIn, room}
use Rattle.verifier.proofs.inference.table_up_to.Given as goal

abbrev pub invariant-loop-pc : goal.invariant-loop-pc
invariant-loop-pc l = record { known : Known l.program l.method l.last l.search; low : AreLowIn l.program l.method l.search.table }

abbrev pub decreases-loop-pc : goal.decreases-loop-pc
decreases-loop-pc l = room l.program l.method l.search
