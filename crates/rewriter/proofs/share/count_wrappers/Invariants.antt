use Rattle.std.proofs.Common.{◌≡◌, ◌≤◌, take}
use Rattle.rewriter.specs.Part.{wrapper_count}
use Rattle.rewriter.proofs.share.count_wrappers.Given as goal

-- how many of those so far get wrappers
abbrev pub invariant-loop-method : goal.invariant-loop-method
invariant-loop-method l = (l.count ≡ wrapper_count (take l.method-index l.methods)) × (l.count ≤ l.method-index)
