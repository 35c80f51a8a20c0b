use Rattle.std.proofs.Common.{◌≡◌, ◌++◌, replicate}
use Rattle.type_lists.proofs.tree.TypeTree.+push_to.Given as goal

abbrev pub invariant-loop : goal.invariant-loop
invariant-loop l = l.types.items ≡ l.fn.types.items ++ replicate l.counter l.item
