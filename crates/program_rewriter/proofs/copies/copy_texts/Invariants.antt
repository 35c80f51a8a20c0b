use Rattle.std.proofs.Common.{◌≡◌, take}
use Rattle.program_rewriter.proofs.copies.copy_texts.Given as goal

-- the copies so far
abbrev pub invariant-loop-text : goal.invariant-loop-text
invariant-loop-text l = l.texts.items ≡ take l.text-index l.from
