use Rattle.std.proofs.Common.{◌≡◌, ◌++◌, length}
use Rattle.type_lists.proofs.stack.TypeStack.flat.Given as goal

abbrev pub invariant-loop-part : goal.invariant-loop-part
invariant-loop-part l = l.types.items ++ l.at ≡ l.self

abbrev pub decreases-loop-part : goal.decreases-loop-part
decreases-loop-part l = length l.at
