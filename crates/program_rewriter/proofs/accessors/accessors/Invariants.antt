use Rattle.std.proofs.Common.{◌≡◌, ◌++◌, drop}
use Rattle.objects.specs.rewriting.Rewriting.{accessors}
use Rattle.program_rewriter.proofs.accessors.accessors.Given as goal

-- the accessors so far, and those that still follow
abbrev pub invariant-loop-number : goal.invariant-loop-number
invariant-loop-number l = l.methods.items ++ accessors l.number (drop l.number l.program.fields) ≡ accessors 0 l.program.fields
