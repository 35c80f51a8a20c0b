use Rattle.std.proofs.Common.{◌≡◌}
use Rattle.std.specs.List.{flat_map}
use Rattle.field_members.specs.Accessors.{both_of}
use Rattle.field_members.proofs.accessors.in_order.Given as goal

-- the members so far
abbrev pub invariant-loop-both : goal.invariant-loop-both
invariant-loop-both l = l.members.items ≡ flat_map both_of l.yielded
