use Rattle.std.proofs.Common.{◌≡◌, ◌≤◌, ◌+◌, ◌*◌, length, reverse}
use Rattle.claims.specs.Passes.{claims_of, IsOf}
use Rattle.session.specs.Engines.{pass_of, StandsIn}
use Rattle.tx_table.specs.Passes.{book}
use Rattle.session.specs.Claimed.{calls_at}
use Rattle.machine.specs.Machine.{bounds_of}
use Rattle.objects.specs.rewriting.Events.{Grows}
use Rattle.session.specs.Telling.{IsRecordOf, HasTold}
use Rattle.session.proofs.Stood.{Stood}
use Rattle.session.proofs.Claiming.{Claiming}
use Rattle.session.proofs.call.Making.claim_over.Given as goal

abbrev pub invariant-loop-count : goal.invariant-loop-count
invariant-loop-count g l = record {
  making : l.session.making ≡ l.self;
  stood : Stood (StandsIn g.K.Beginning.began l.session.engine) (reverse (book l.fn.pass).entries)
      (length (book l.fn.pass).lost) l.at l.self.limits.room.used (calls_at l.calls l.indexes.items) l.session.lane;
  count : l.session.lane.made ≡ l.count;
  ticks : (book (pass_of l.session.engine)).ticks ≤ (book l.fn.pass).ticks + l.count * 1000000;
  bag : IsOf l.bag l.claims;
  claiming : Claiming (length l.calls) l.count (claims_of l.claims) l.indexes.items;
  told : HasTold l.self.rewritten.now (bounds_of l.self.limits) (IsRecordOf l.at (calls_at l.calls l.indexes.items)) l.session.lane.placed.items (Grows (g.G.Gate.told l.fn.gate) (g.G.Gate.told l.session.gate));
}
