use Rattle.std.proofs.Common.{◌≡◌, ◌+◌, false, drop}
use Rattle.objects.specs.rewriting.Rewriting.{before_end}
use Rattle.member_code.proofs.names.before_end.Given as goal

-- what stands before the end in the rest, behind what was passed
abbrev pub invariant-loop-n : goal.invariant-loop-n
invariant-loop-n l = l.n + before_end l.in_name (drop l.n l.descriptor) ≡ before_end false l.descriptor
