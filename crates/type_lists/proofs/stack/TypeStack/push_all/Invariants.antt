use Rattle.std.proofs.Common.{◌≡◌, ◌++◌, length}
use Rattle.type_lists.proofs.stack.TypeStack.push_all.Given as goal

abbrev pub invariant-loop-item : goal.invariant-loop-item
invariant-loop-item l = l.left.items ++ l.stack ≡ l.fn.types.items ++ l.fn.self

abbrev pub decreases-loop-item : goal.decreases-loop-item
decreases-loop-item l = length l.left.items
