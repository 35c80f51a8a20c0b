use Rattle.std.proofs.Common.{take, false}
use Rattle.tx_table.specs.Passes.{book, IsSame, IsSettled}
use Rattle.tl2.specs.Commits.{IsChecked}
use Rattle.tl2.proofs.commit.validate_all.Given as goal

abbrev pub invariant-loop-address : goal.invariant-loop-address
invariant-loop-address g l = record {
  same : IsSame l.initial.pass l.pass;
  checked : IsChecked (take l.address-index l.addresses) (book l.initial.pass) (book l.pass);
  settled : IsSettled l.pass;
}

abbrev pub ghost-validate : goal.ghost-validate
ghost-validate g a = false
