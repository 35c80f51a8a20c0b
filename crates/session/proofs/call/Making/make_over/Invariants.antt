use Rattle.std.proofs.Common.{◌≡◌, ◌≤◌, ◌+◌, ◌*◌, length, reverse}
use Rattle.session.specs.Engines.{pass_of, StandsIn}
use Rattle.tx_table.specs.Passes.{book}
use Rattle.machine.specs.Machine.{bounds_of}
use Rattle.objects.specs.rewriting.Events.{Grows}
use Rattle.session.specs.Telling.{IsRecordOf, HasTold}
use Rattle.session.proofs.Stood.{Stood}
use Rattle.session.proofs.call.Making.make_over.Given as goal

abbrev pub invariant-loop-index : goal.invariant-loop-index
invariant-loop-index g l = record {
  making : l.session.making ≡ l.self;
  stood : Stood (StandsIn g.K.Beginning.began l.session.engine) (reverse (book l.fn.pass).entries)
      (length (book l.fn.pass).lost) l.at l.self.limits.room.used l.calls l.session.lane;
  count : l.session.lane.made ≡ l.index;
  ticks : (book (pass_of l.session.engine)).ticks ≤ (book l.fn.pass).ticks + l.index * 1000000;
  told : HasTold l.self.rewritten.now (bounds_of l.self.limits) (IsRecordOf l.at l.calls) l.session.lane.placed.items (Grows (g.G.Gate.told l.fn.gate) (g.G.Gate.told l.session.gate));
}
