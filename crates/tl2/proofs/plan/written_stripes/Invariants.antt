use Rattle.std.proofs.Common.{reverse}
use Rattle.tx_table.specs.Book.{pairs}
use Rattle.tl2.proofs.Plans.{IsWriting}
use Rattle.tl2.proofs.plan.written_stripes.Given as goal

abbrev pub invariant-loop-address : goal.invariant-loop-address
invariant-loop-address l = IsWriting (pairs (reverse l.writes.items)) l.address-iterator l.stripes
