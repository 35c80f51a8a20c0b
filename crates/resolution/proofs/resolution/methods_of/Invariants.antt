use Rattle.std.proofs.Common.{map}
use Rattle.resolution.specs.Resolving.{any_member}
use Rattle.resolution.proofs.Resolved.{AreUpTo}
use Rattle.resolution.proofs.resolution.methods_of.Given as goal

-- the members of the classes so far
abbrev pub invariant-loop-class : goal.invariant-loop-class
invariant-loop-class l = AreUpTo any_member (λ c. c.methods) (map (λ c. c.now) l.classes) l.class-index l.table.items
