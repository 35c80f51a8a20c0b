use Rattle.std.proofs.Common.{◌≡◌}
use Rattle.std.specs.List.{flat_map}
use Rattle.array_helper.specs.Helper.{both_of}
use Rattle.array_helper.proofs.helper.in_order.Given as goal

-- the members so far
abbrev pub invariant-loop-both : goal.invariant-loop-both
invariant-loop-both l = l.members.items ≡ flat_map both_of l.yielded
