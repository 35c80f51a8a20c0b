use Rattle.std.proofs.Common.{ℕ}
use Rattle.jmodel.specs.history.History.{Call}
use Rattle.tx_table.specs.Passes.{book, IsSame, IsKin}
use Rattle.tx_table.specs.Trials.{the_call}
use Rattle.tl2.specs.Standing.{IsOpen, Awaits}
use Rattle.tl2.specs.Trials.{StandsSomehow}
use Rattle.part_tests.proofs.attempts.changes_all.Given as goal

abbrev pub invariant-loop-amount : goal.invariant-loop-amount
invariant-loop-amount g l = record {
  open_still : IsOpen l.tx.shared.now.words l.tx.at (the_call l.tx.call.value.lane l.tx.call.value.index) (book l.tx.pass);
  stands : StandsSomehow l.tx.shared.now.words l.tx.at l.tx.writes.items l.tx.pass;
  awaits : (c : Call) (used : ℕ) → Awaits (the_call l.fn.tx.call.value.lane l.fn.tx.call.value.index) (book l.fn.tx.pass) c used → Awaits (the_call l.tx.call.value.lane l.tx.call.value.index) (book l.tx.pass) c used;
  same : IsSame l.fn.tx.pass l.tx.pass × IsKin (book l.fn.tx.pass) (book l.tx.pass);
}
