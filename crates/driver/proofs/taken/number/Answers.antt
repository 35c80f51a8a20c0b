use Rattle.std.proofs.Common.{ℕ, get_or, ◌∙◌, ap}
use Rattle.driver.proofs.Giving.{numbered_next}
use Rattle.driver.proofs.taken.number.Goals as goal

pub loop-record-preserved : goal.loop-record-preserved
loop-record-preserved c =
    numbered_next c.args.taken.now c.args.records.now c.loop-record.record-items c.loop-record.record-index _ c.index-taken-from.result c.index.result.now
    c.requires c.loop-record-test.true c.loop-record.invariant (c.index-taken-from.is ∙ ap (λ (n : ℕ). get_or c.args.taken.now n c.index-taken-from.result) c.from.ensures) c.index.ensures
