use Rattle.std.proofs.Common.{◌≤◌, ◌+◌, ◌*◌, map, take}
use Rattle.tx_table.specs.Passes.{book}
use Rattle.driver.specs.Passing.{AreUsed, IsWhole}
use Rattle.driver.proofs.Over.{HasRunOver}
use Rattle.driver.proofs.Spending.{script_count}
use Rattle.driver.proofs.ToldRuns.{ToldTo}
use Rattle.driver.proofs.run.Runner.run_over.Given as goal

abbrev pub invariant-loop-number : goal.invariant-loop-number
invariant-loop-number g l = record {
  whole : IsWhole l.shared.table.shared.table_id l.number l.pass;
  fresh : 1048575 ≤ (book l.pass).fresh + 16 * l.number;
  few : (book l.pass).fresh ≤ 1048575;
  ticks : (book l.pass).ticks ≤ script_count (take l.number l.phases) * 2000000;
  used : AreUsed l.kept.used (book l.pass);
  over : HasRunOver (take l.number l.phases) (book l.pass) l.records;
  told : ToldTo l.self.rewritten.now l.self.limits l.phases (take l.number l.phases) l.records.placed.items (map g.G.Gate.told l.fn.gates.items) (map g.G.Gate.told l.kept.gates.items);
}
