use Rattle.std.proofs.Common.{rules, ◌∙◌, length-set}
use Rattle.tx_table.proofs.Heaps.{copied}
use Rattle.tx_table.proofs.opening.copy_heap.Goals as goal

pub loop-a-preserved : goal.loop-a-preserved
loop-a-preserved c = let h = c.loop-a.invariant in (
  length-set c.loop-a.heap.items c.loop-a.a c.word.result ∙ h.0,
  search rules,
  copied _ _ _ _ (search rules) h.2 c.word.ensures,
)
