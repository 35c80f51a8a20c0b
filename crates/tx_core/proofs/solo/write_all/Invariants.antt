use Rattle.std.proofs.Common.{◌≡◌, ◌<◌, ℕ, length, nat_eq, reverse, slice_index, unwrap_or}
use Rattle.std.specs.List.{IsDistinct}
use Rattle.std.specs.Map.{lookup, keys_of}
use Rattle.jmodel.specs.history.Log.{answered}
use Rattle.tx_core.proofs.solo.write_all.Given as goal

abbrev pub invariant-loop-address : goal.invariant-loop-address
invariant-loop-address l = record {
  size : length l.words.items ≡ length l.fn.words.items;
  once : IsDistinct nat_eq (keys_of l.address-iterator);
  words : (a : ℕ) → a < length l.fn.words.items → unwrap_or (lookup (nat_eq a) l.address-iterator) (slice_index l.words.items a) ≡ answered (reverse l.writes.items) a (slice_index l.fn.words.items a);
}
