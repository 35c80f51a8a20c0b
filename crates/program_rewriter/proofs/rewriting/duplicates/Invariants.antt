use Rattle.std.proofs.Common.{◌≡◌, length, take}
use Rattle.objects.specs.rewriting.Rewriting.{duplicates}
use Rattle.program_rewriter.proofs.rewriting.duplicates.Given as goal

-- the duplicates so far
abbrev pub invariant-loop-method : goal.invariant-loop-method
invariant-loop-method l = l.methods.items ≡ duplicates l.fn.program (take (length l.yielded) l.fn.program.methods) (take (length l.yielded) l.fn.typings)
