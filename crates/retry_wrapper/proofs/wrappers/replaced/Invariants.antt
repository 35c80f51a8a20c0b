use Rattle.std.proofs.Common.{◌≡◌, map, take}
use Rattle.retry_wrapper.specs.Wrappers.{with_bytes}
use Rattle.retry_wrapper.proofs.wrappers.replaced.Given as goal

-- the attributes so far
abbrev pub invariant-loop-attribute : goal.invariant-loop-attribute
invariant-loop-attribute l = l.kept.items ≡ map (with_bytes l.pool l.bytes) (take l.attribute-index l.attributes)
