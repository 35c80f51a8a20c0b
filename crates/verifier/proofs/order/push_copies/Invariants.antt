use Rattle.std.proofs.Common.{◌≡◌, ◌++◌, take}
use Rattle.verifier.proofs.order.push_copies.Given as goal

abbrev pub invariant-loop-item : goal.invariant-loop-item
invariant-loop-item l = l.types.items ≡ l.fn.types.items ++ take l.item-index l.from
