use Rattle.std.proofs.Common.{map}
use Rattle.resolution.specs.Resolving.{may_run}
use Rattle.resolution.proofs.Resolved.{AreUpTo}
use Rattle.resolution.proofs.resolution.selected_of_classes.Given as goal

-- the members of the classes so far
abbrev pub invariant-loop-class : goal.invariant-loop-class
invariant-loop-class l = AreUpTo may_run (λ c. c.methods) (map (λ c. c.now) l.classes) l.class-index l.table.items
