use Rattle.std.proofs.Common.{◌≡◌, take}
use Rattle.const_pool.specs.Uses.{uses_of}
use Rattle.const_pool.proofs.references.Descriptors.of.Given as goal

abbrev pub invariant-loop-entry : goal.invariant-loop-entry
invariant-loop-entry l = l.uses.items ≡ uses_of (take l.entry-index l.entry-items)
