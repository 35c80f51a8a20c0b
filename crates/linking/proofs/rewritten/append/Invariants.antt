use Rattle.std.proofs.Common.{◌≡◌, ◌++◌, map, take}
use Rattle.objects.specs.linking.Classes.{declared_in}
use Rattle.linking.proofs.rewritten.append.Given as goal

-- the methods so far
abbrev pub invariant-loop-member : goal.invariant-loop-member
invariant-loop-member l = l.methods.items ≡ l.fn.methods.items ++ map (λ k. (k, l.counted)) (declared_in l.class (take l.member-index l.members))
