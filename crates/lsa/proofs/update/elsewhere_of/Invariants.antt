use Rattle.std.proofs.Common.{◌≡◌, ◌%◌, not, filter, take}
use Rattle.std.specs.Ordering.{nat_cmp}
use Rattle.std.specs.BTreeSet.{contains}
use Rattle.lsa.proofs.update.elsewhere_of.Given as goal

abbrev pub invariant-loop-address : goal.invariant-loop-address
invariant-loop-address l = record {
  elsewhere : l.read_elsewhere.items ≡ filter (λ a. not (contains nat_cmp l.own (a % 4096))) (take l.address-index l.reads);
}
