use Rattle.std.proofs.Common.{◌≡◌, take}
use Rattle.program_rewriter.proofs.copies.copy_fields.Given as goal

-- the copies so far
abbrev pub invariant-loop-field : goal.invariant-loop-field
invariant-loop-field l = l.fields.items ≡ take l.field-index l.from
