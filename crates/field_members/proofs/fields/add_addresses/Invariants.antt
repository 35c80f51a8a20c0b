use Rattle.std.proofs.Common.{◌≡◌, drop}
use Rattle.member_code.specs.Growing.{grow_from}
use Rattle.member_code.proofs.Grow.{with_front}
use Rattle.field_members.specs.Fields.{address_of}
use Rattle.field_members.proofs.fields.add_addresses.Given as goal

-- what was put so far, and what is still put
abbrev pub invariant-loop-field : goal.invariant-loop-field
invariant-loop-field l = with_front l.members.items (grow_from (λ n f. address_of f) l.field-index (drop l.field-index l.fields) l.pool) ≡ grow_from (λ n f. address_of f) 0 l.fields l.initial.pool
