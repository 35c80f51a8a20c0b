use Rattle.std.proofs.Common.{ℕ, ◌≡◌, ◌-◌, length}
use Rattle.tx_table.specs.Passes.{book}
use Rattle.driver.specs.Stories.{of_lane}
use Rattle.driver.specs.Passing.{IsWhole, IsSplit, AreStarting}
use Rattle.driver.proofs.table.start_lanes.Given as goal

-- of the numbers one is gone for each lane before
abbrev pub ghost-split : goal.ghost-split
ghost-split g a = of_lane (1048576 - (book a.self.now).numbers)

abbrev pub invariant-loop-lane : goal.invariant-loop-lane
invariant-loop-lane g l = record {
  pass : IsSplit l.shared.table.shared.table_id (book l.fn.pass) l.lane l.pass;
  len : length l.starts.items ≡ l.lane;
  starts : (phase : ℕ) → IsWhole l.shared.table.shared.table_id phase l.fn.pass
      → AreStarting l.shared.table.shared.table_id (book l.fn.pass).seen phase l.starts.items;
}
