use Rattle.std.proofs.Common.{◌≡◌, ◌≤◌, ◌+◌, drop}
use Rattle.std.specs.Prelude.{zip}
use Rattle.rewriter.specs.Rewritten.{wrapped_from}
use Rattle.rewriter.proofs.wrappers.wrap_each.Given as goal

-- what is still wrapped, and how many methods and wrappers there were
abbrev pub invariant-loop-i : goal.invariant-loop-i
invariant-loop-i l =
    (wrapped_from l.program l.class.pool l.i l.number l.wrapper (drop l.i (zip l.class.methods l.share.flags)) l.rewritten
    ≡ wrapped_from l.program l.class.pool 0 l.share.first l.share.wrapper (zip l.class.methods l.share.flags) l.initial.rewritten)
    × (l.number ≤ l.share.first + l.i) × (l.wrapper ≤ l.share.wrapper + l.i)
