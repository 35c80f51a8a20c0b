use Rattle.std.proofs.Common.{length, map, take}
use Rattle.jmodel.specs.history.Schedule.{Lanes}
use Rattle.driver.specs.Telling.{AreTold, IsCallAt}
use Rattle.tx_table.specs.Passes.{book}
use Rattle.driver.specs.Sides.{AreWhole}
use Rattle.driver.specs.Passing.{AreUsed, call_count, IsResting}
use Rattle.driver.proofs.run.Runner.one_after_another.Given as goal

abbrev pub invariant-loop-number : goal.invariant-loop-number
invariant-loop-number g l = record {
  resting : IsResting l.shared.table.shared.table_id (book l.fn.pass) l.phase (call_count (take l.number l.lanes)) (take l.number l.lanes) (take l.number l.firsts)
      l.side.placed.items l.side.parts.items l.pass;
  used : AreUsed l.kept.used (book l.pass);
  whole : AreWhole (take l.number l.lanes) (take l.number l.firsts) l.side.parts.items;
  told : AreTold l.self.rewritten.now l.self.limits (IsCallAt l.phase (Lanes l.lanes)) (length l.lanes) l.side.placed.items (map g.G.Gate.told l.fn.kept.gates.items) (map g.G.Gate.told l.kept.gates.items);
}
