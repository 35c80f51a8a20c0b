use Rattle.std.proofs.Common.{◌≡◌, take}
use Rattle.std.specs.Prelude.{map}
use Rattle.hierarchy.specs.Search.{is_found}
use Rattle.hierarchy.proofs.taken.are_found.Given as goal

-- the answers so far
abbrev pub invariant-loop-method : goal.invariant-loop-method
invariant-loop-method l = l.found.items ≡ map (is_found l.called) (take l.method-index l.methods)
