use Rattle.std.proofs.Common.{◌≡◌, ℕ, take, drop, map, []}
use Rattle.std.specs.Prelude.{nat_eq}
use Rattle.std.specs.List.{list_any}
use Rattle.std.specs.Ordering.{nat_cmp}
use Rattle.std.specs.BTreeSet as tree
use Rattle.jmodel.specs.format.ClassFileReading.{distinct}
use Rattle.class_reader.specs.Numbers.{numbers_of, key_of}
use Rattle.class_reader.proofs.distinct.distinct.Given as goal

abbrev pub invariant-loop-m : goal.invariant-loop-m
invariant-loop-m l =
    ((q : ℕ) → tree.contains nat_cmp l.seen q ≡ list_any (nat_eq q) (map (key_of (numbers_of l.pool)) (take l.m-index l.members))) × (distinct l.pool (take l.m-index l.members) (drop l.m-index l.members) ≡ distinct l.pool [] l.members)
