use Rattle.std.proofs.Common.{◌≡◌, [], ℕ, drop}
use mathlib.Core.Option.{some}
use Rattle.tx_table.specs.Book.{lookup}
use Rattle.tx_table.specs.Passes.{book, IsSame}
use Rattle.tl2.specs.Commits.{Holds, IsRest, IsReleasing}
use Rattle.tl2.proofs.commit.release_all.Given as goal

abbrev pub invariant-loop-stripe : goal.invariant-loop-stripe
invariant-loop-stripe g l = record {
  same : IsSame l.initial.pass l.pass;
  held : Holds (drop l.stripe-index l.held) (book l.pass);
  releasing : IsReleasing (book l.pass);
  left : (b x : ℕ) → lookup (book l.pass).face.left b ≡ some x → ⊥;
  rest : IsRest [] 0 (book l.initial.pass) (book l.pass);
  wants : (book l.pass).wants ≡ (book l.initial.pass).wants;
}
