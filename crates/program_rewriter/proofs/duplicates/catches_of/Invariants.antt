use Rattle.std.proofs.Common.{◌≡◌, ◌∷◌, map, take, length}
use Rattle.objects.specs.declared.op.Catches.TheVariants.{Conflict}
use Rattle.objects.specs.rewriting.Rewriting.{moved_catch, catch}
use Rattle.program_rewriter.specs.Places.{start_of}
use Rattle.program_rewriter.proofs.duplicates.catches_of.Given as goal

-- that of conflicts, and the method's own so far
abbrev pub invariant-loop-entry : goal.invariant-loop-entry
invariant-loop-entry l = l.entries.items ≡ catch 0 (start_of l.starts (length l.method.ops)) (start_of l.starts (length l.method.ops)) Conflict ∷ map (moved_catch (start_of l.starts)) (take l.entry-index l.method.catches)
