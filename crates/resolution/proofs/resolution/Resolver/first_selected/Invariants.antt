use Rattle.std.proofs.Common.{◌≡◌, drop}
use Rattle.resolution.specs.Ways.{first_own}
use Rattle.resolution.specs.Resolving.{own_selected}
use Rattle.resolution.proofs.resolution.Resolver.first_selected.Given as goal

-- the first is the first of those that are still to come
abbrev pub invariant-loop-place : goal.invariant-loop-place
invariant-loop-place l = first_own (own_selected l.self l.r) (drop l.place-index l.way) ≡ first_own (own_selected l.self l.r) l.way
