use Rattle.std.proofs.Common.{◌≡◌, take}
use Rattle.const_pool.specs.Firsts.{first, key_known, has_key, member_key}
use Rattle.const_pool.specs.declared.keys.Key.{Key}
use Rattle.const_pool.proofs.index.note_members.Given as goal

abbrev pub invariant-loop-i : goal.invariant-loop-i
invariant-loop-i l = (k : Key) → key_known l.members k ≡ first (λ c. has_key k (member_key l.entries c)) (take l.i l.entries)
