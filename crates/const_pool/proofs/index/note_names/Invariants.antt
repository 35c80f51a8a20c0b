use Rattle.std.proofs.Common.{◌≡◌, take}
use Rattle.const_pool.specs.Firsts.{first, key_known, has_key, name_key}
use Rattle.const_pool.specs.declared.keys.Key.{Key}
use Rattle.const_pool.proofs.index.note_names.Given as goal

abbrev pub invariant-loop-i : goal.invariant-loop-i
invariant-loop-i l = (k : Key) → key_known l.names k ≡ first (λ c. has_key k (name_key l.entries c)) (take l.i l.entries)
