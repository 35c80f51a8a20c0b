use Rattle.std.proofs.Common.{◌≡◌, ℕ, length, take}
use Rattle.std.specs.List.{flat_map}
use Rattle.driver.specs.Telling.{kept_of}
use Rattle.tx_table.specs.Book.{Book}
use Rattle.jmodel.specs.history.Schedule.{Phase}
use Rattle.driver.specs.Passing.{call_count, AreEnding, IsJoining}
use Rattle.driver.proofs.threads.gather.Given as goal

abbrev pub invariant-loop-end : goal.invariant-loop-end
invariant-loop-end g l = record {
  joining : (b : Book) (phase : ℕ) (lanes : Phase) → AreEnding l.shared.table.shared.table_id b phase lanes l.fn.ends.items l.fn.pass
      → IsJoining l.shared.table.shared.table_id b phase (length l.fn.ends.items) (call_count (take (length l.yielded) lanes)) (take (length l.yielded) lanes)
      l.side.placed.items l.side.parts.items l.pass;
  placed : l.side.placed.items ≡ flat_map kept_of l.yielded;
}
