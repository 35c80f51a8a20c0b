use Rattle.std.proofs.Common.{◌≡◌, take}
use Rattle.rewriter.proofs.copies.copy_members.Given as goal

-- the copies so far
abbrev pub invariant-loop-member : goal.invariant-loop-member
invariant-loop-member l = l.copied.items ≡ take l.member-index l.list
