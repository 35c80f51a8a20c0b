use Rattle.std.proofs.Common.{◌≡◌, ◌%◌, ℕ, filter, is_none, option_map, take}
use Rattle.std.specs.Ordering.{nat_cmp}
use Rattle.std.specs.BTreeMap.{get}
use Rattle.tl2.specs.Plans.{marked}
use Rattle.tl2.proofs.plan.mark_read.Given as goal

abbrev pub invariant-loop-address : goal.invariant-loop-address
invariant-loop-address l = record {
  marks : (n : ℕ) → get nat_cmp l.stripes n ≡ option_map (marked (take l.address-index l.reads) n) (get nat_cmp l.initial.stripes n);
  elsewhere : l.read_elsewhere.items ≡ filter (λ a. is_none (get nat_cmp l.initial.stripes (a % 4096))) (take l.address-index l.reads);
}
