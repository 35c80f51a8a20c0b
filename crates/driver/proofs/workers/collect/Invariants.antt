use Rattle.std.proofs.Common.{◌≡◌, ℕ, List, length}
use Rattle.claims.specs.Passes.{claims_of, IsOf}
use Rattle.atomic_table.specs.Seated.{TableId}
use Rattle.jmodel.specs.history.Schedule.{Known}
use Rattle.driver.specs.Bags.{lists}
use Rattle.driver.specs.Workers.{HaveWorked}
use Rattle.driver.specs.Telling.{AreSorted}
use Rattle.driver.proofs.Working.{Collecting}
use Rattle.driver.proofs.workers.collect.Given as goal

abbrev pub invariant-loop-end : goal.invariant-loop-end
invariant-loop-end l = record {
  bag : IsOf l.bag l.claims;
  collecting : (t : TableId) (seen phase : ℕ) (calls : List Known) → l.bag.length ≡ length calls → HaveWorked t seen l.bag phase calls (length l.fn.ends.items) l.fn.ends.items
      → Collecting t seen phase calls (length l.fn.ends.items) (length l.yielded) (claims_of l.claims) (lists l.indexes.items) l.lanes.items;
  sorted : AreSorted l.yielded l.lanes.items l.indexes.items;
}
