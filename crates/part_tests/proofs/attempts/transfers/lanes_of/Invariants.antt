use Rattle.std.proofs.Common.{◌≡◌, ◌+◌, ◌<◌, ◌≤◌, ℕ, suc, [], All, length}
use mathlib.Core.Option.{some, none}
use Rattle.tx_table.specs.Book.{Unticked, lookup}
use Rattle.tx_table.specs.Passes.{book, IsSame}
use Rattle.tl2.specs.Trials.{IsStarting, of_lane}
use Rattle.part_tests.proofs.attempts.transfers.lanes_of.Given as goal

abbrev pub ghost-split_lane : goal.ghost-split_lane
ghost-split_lane a = of_lane a._lane

abbrev pub invariant-loop-number : goal.invariant-loop-number
invariant-loop-number l = record {
  same : IsSame l.initial.pass l.pass;
  numbers : (book l.pass).numbers + l.number ≡ 1048576;
  fresh : (book l.pass).fresh + l.number ≡ 1048575;
  ticks : (book l.pass).ticks ≡ 0;
  free : ((book l.pass).face.held ≡ []) × ((book l.pass).face.stage ≡ Unticked);
  regions : (k : ℕ) → l.number ≤ k → k < 16 → lookup (book l.pass).regions (suc k) ≡ some (record { used = 0; last = none });
  len : length l.lanes.items ≡ l.number;
  lanes : All (λ x. IsStarting l.shared.table.shared.table_id x.number x.pass) l.lanes.items;
}
