use Rattle.std.proofs.Common.{map, reverse}
use Rattle.deuce.specs.Ending.{AreUnderNames}
use Rattle.deuce.proofs.rewriting.by_name.Given as goal

-- the classes so far, of which the last one comes first
abbrev pub invariant-loop-class : goal.invariant-loop-class
invariant-loop-class l = AreUnderNames l.named.entries (reverse (map (λ c. c.now) l.yielded))
