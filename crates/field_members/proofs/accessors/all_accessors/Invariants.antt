use Rattle.std.proofs.Common.{◌≡◌, ◌-◌, drop}
use Rattle.member_code.specs.Growing.{grow_from}
use Rattle.member_code.proofs.Grow.{with_front}
use Rattle.field_members.specs.Accessors.{accessors_of}
use Rattle.field_members.proofs.accessors.all_accessors.Given as goal

-- what was put so far, and what is still put
abbrev pub invariant-loop-n : goal.invariant-loop-n
invariant-loop-n l = with_front l.members.items (grow_from (λ n f. accessors_of (l.room - n - n) f) l.n (drop l.n l.fields) l.pool) ≡ grow_from (λ n f. accessors_of (l.room - n - n) f) 0 l.fields l.initial.pool
