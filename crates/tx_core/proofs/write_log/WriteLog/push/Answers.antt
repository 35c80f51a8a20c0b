use Rattle.tx_core.proofs.Kept.{indexed_more, on_ok}
use Rattle.tx_core.proofs.write_log.WriteLog.push.Goals as goal

pub invariant_of-self-else-is_err : goal.invariant_of-self-else-is_err
invariant_of-self-else-is_err c =
    let ok = c.if-is_err.ensures.negation in
    rw c.in_ok-push.ensures.items (indexed_more _ _ c.args.access _ _ c.of.ensures c.self.invariant (on_ok c.insert.result ok c.insert.ensures.updates).0 (on_ok c.insert.result ok c.insert.ensures.entries))
