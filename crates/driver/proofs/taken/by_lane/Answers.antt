use Rattle.std.proofs.Common.{ℕ, List, ◌<◌, length, sym, subst}
use Rattle.std.specs.List.{AllByRecursion}
use Rattle.driver.proofs.Giving.{list_here}
use Rattle.driver.proofs.taken.by_lane.Goals as goal

pub calls_at-requires : goal.calls_at-requires
calls_at-requires c =
    let Under : List ℕ → Type 0 = λ l. AllByRecursion (λ i. i < length c.args.calls.now) l in
    subst Under (sym c.as_slice.ensures.value)
    (list_here Under c.args.taken.now c.loop-indexes.indexes-index c.indexes-item.result c.requires c.loop-indexes-test.true c.indexes-item.is)
