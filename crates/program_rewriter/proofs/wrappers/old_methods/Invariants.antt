use Rattle.std.proofs.Common.{◌≡◌, ◌++◌, drop}
use Rattle.objects.specs.rewriting.Rewriting.{old_methods}
use Rattle.program_rewriter.proofs.wrappers.old_methods.Given as goal

-- the methods so far, and those that still follow
abbrev pub invariant-loop-number : goal.invariant-loop-number
invariant-loop-number l = l.methods.items ++ old_methods l.program l.id l.number (drop l.number l.program.methods) ≡ old_methods l.program 0 0 l.program.methods
