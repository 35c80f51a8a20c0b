use Rattle.std.proofs.Common.{◌≡◌, [], true, drop}
use Rattle.tx_table.specs.Book.{Unticked}
use Rattle.tx_table.specs.Passes.{book, IsSame, IsSettled}
use Rattle.tl2.specs.Commits.{Holds, IsRest}
use Rattle.lsa.proofs.ending.give_back_reading.Given as goal

abbrev pub invariant-loop-stripe : goal.invariant-loop-stripe
invariant-loop-stripe g l = record {
  same : IsSame l.initial.pass l.pass;
  held : Holds (drop l.stripe-index l.held) (book l.pass);
  live : (book l.pass).live ≡ true;
  stage : (book l.pass).face.stage ≡ Unticked;
  settled : IsSettled l.pass;
  rest : IsRest [] 0 (book l.initial.pass) (book l.pass);
  seen : (book l.pass).seen ≡ (book l.initial.pass).seen;
  wants : (book l.pass).wants ≡ (book l.initial.pass).wants;
}

abbrev pub ghost-release_old : goal.ghost-release_old
ghost-release_old g a = true
