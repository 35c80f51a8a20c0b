use Rattle.std.proofs.Common.{◌≡◌, drop, take}
use Rattle.tx_table.specs.Book.{In}
use Rattle.tx_table.specs.Passes.{book, IsSame, IsSettled}
use Rattle.tl2.specs.Commits.{Holds, IsTaking, MeansOnly}
use Rattle.tl2.specs.Plans.{addresses_of}
use Rattle.tl2.proofs.commit.take_all.Given as goal

abbrev pub invariant-loop-i : goal.invariant-loop-i
invariant-loop-i g l = record {
  same : IsSame l.initial.pass l.pass;
  held : Holds (take l.i l.stripes) (book l.pass);
  addresses : addresses_of l.stripes ≡ addresses_of l.initial.stripes;
  later : drop l.i l.stripes ≡ drop l.i l.initial.stripes;
  taking : IsTaking (book l.initial.pass) (book l.pass);
  settled : IsSettled l.pass;
  means : MeansOnly (λ a. In a (addresses_of l.initial.stripes)) (book l.initial.pass) (book l.pass);
}
