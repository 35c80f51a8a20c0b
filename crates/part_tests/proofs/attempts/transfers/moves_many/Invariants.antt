use Rattle.std.proofs.Common.{◌≡◌, ◌-◌, ◌≤◌}
use Rattle.tx_table.specs.Passes.{book, IsSame}
use Rattle.tl2.specs.Trials.{StandsSomehow, IsWaiting}
use Rattle.part_tests.proofs.attempts.transfers.moves_many.Given as goal

abbrev pub invariant-loop-index : goal.invariant-loop-index
invariant-loop-index g l = record {
  stands : StandsSomehow l.tx.shared.now.words l.tx.at l.tx.writes.items l.tx.pass;
  waits : IsWaiting l.lane l.index (book l.tx.pass);
  ticks : (book l.tx.pass).ticks ≤ l.index;
  same : IsSame l.fn.tx.pass l.tx.pass × ((book l.tx.pass).numbers ≡ (book l.fn.tx.pass).numbers) × ((book l.tx.pass).fresh ≡ (book l.fn.tx.pass).fresh);
  few : l.index ≤ 100000000;
  done : l.done ≤ l.index;
}

abbrev pub decreases-loop-index : goal.decreases-loop-index
decreases-loop-index g l = 100000000 - l.index
