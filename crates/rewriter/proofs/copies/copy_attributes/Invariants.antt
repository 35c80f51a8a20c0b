use Rattle.std.proofs.Common.{◌≡◌, take}
use Rattle.rewriter.proofs.copies.copy_attributes.Given as goal

-- the copies so far
abbrev pub invariant-loop-attribute : goal.invariant-loop-attribute
invariant-loop-attribute l = l.copied.items ≡ take l.attribute-index l.list
