use Rattle.std.proofs.Common.{◌≡◌, [], ◌⊎◌, false, drop}
use Rattle.tx_table.specs.Book.{Unticked}
use Rattle.tx_table.specs.Passes.{book, IsSame}
use Rattle.tl2.specs.Commits.{Holds, IsRest}
use Rattle.tl2.proofs.commit.give_back.Given as goal

abbrev pub invariant-loop-stripe : goal.invariant-loop-stripe
invariant-loop-stripe g l = record {
  same : IsSame l.initial.pass l.pass;
  held : Holds (drop l.stripe-index l.held) (book l.pass);
  over : ((book l.pass).face.stage ≡ Unticked) ⊎ ((book l.pass).face.held ≡ (book l.initial.pass).face.held);
  rest : IsRest [] 0 (book l.initial.pass) (book l.pass);
  wants : (book l.pass).wants ≡ (book l.initial.pass).wants;
}

abbrev pub ghost-release_old : goal.ghost-release_old
ghost-release_old g a = false
