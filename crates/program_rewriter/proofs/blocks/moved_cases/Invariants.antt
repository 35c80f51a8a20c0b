use Rattle.std.proofs.Common.{◌≡◌, take}
use Rattle.objects.specs.rewriting.Rewriting.{moved_cases}
use Rattle.program_rewriter.specs.Places.{start_of}
use Rattle.program_rewriter.proofs.blocks.moved_cases.Given as goal

-- the cases so far
abbrev pub invariant-loop-key : goal.invariant-loop-key
invariant-loop-key l = l.pairs.items ≡ moved_cases (start_of l.starts) (take l.key-index l.cases)
