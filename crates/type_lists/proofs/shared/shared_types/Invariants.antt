use Rattle.std.proofs.Common.{◌≡◌, ◌++◌}
use Rattle.type_lists.proofs.shared.shared_types.Given as goal

abbrev pub invariant-loop-item : goal.invariant-loop-item
invariant-loop-item l = l.items.items ++ l.item-iterator.rest.items ≡ l.fn.types.items
