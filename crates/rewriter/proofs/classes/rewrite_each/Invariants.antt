use Rattle.std.proofs.Common.{map}
use Rattle.rewriter.proofs.Shares.{IsUnderWay}
use Rattle.rewriter.proofs.classes.rewrite_each.Given as goal

-- the classes so far are rewritten, and the rest is left
abbrev pub invariant-loop-class : goal.invariant-loop-class
invariant-loop-class l = IsUnderWay (map (λ c. c.now) l.classes) l.typed.program.now l.class-index l.rest l.rewritten.items
