use Rattle.std.proofs.Common.{◌≡◌, ◌+◌, ◌≤◌, ◌*◌, [], All, length}
use Rattle.tx_table.specs.Book.{Unticked}
use Rattle.tx_table.specs.Passes.{book, IsSame}
use Rattle.tl2.specs.Trials.{IsEnding}
use Rattle.part_tests.proofs.attempts.transfers.join_all.Given as goal

abbrev pub invariant-loop-done : goal.invariant-loop-done
invariant-loop-done l = record {
  same : IsSame l.initial.pass l.pass;
  ended : All (λ x. IsEnding l.shared.table.shared.table_id x.1) l.ended.items;
  few : length l.ended.items ≤ 16;
  numbers : (book l.pass).numbers + length l.ended.items ≡ (book l.initial.pass).numbers + length l.initial.ended.items;
  fresh : (book l.pass).fresh ≡ (book l.initial.pass).fresh;
  ticks : (book l.pass).ticks + 100000000 * length l.ended.items ≤ 1600000000;
  free : ((book l.pass).face.held ≡ []) × ((book l.pass).face.stage ≡ Unticked);
}

abbrev pub decreases-loop-done : goal.decreases-loop-done
decreases-loop-done l = length l.ended.items
