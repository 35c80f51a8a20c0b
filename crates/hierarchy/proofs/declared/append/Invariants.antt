use Rattle.std.proofs.Common.{◌≡◌, ◌++◌, take}
use Rattle.objects.specs.linking.Classes.{declared_in}
use Rattle.hierarchy.proofs.declared.append.Given as goal

-- the methods so far
abbrev pub invariant-loop-member : goal.invariant-loop-member
invariant-loop-member l = l.methods.items ≡ l.fn.methods.items ++ declared_in l.class (take l.member-index l.member-items)
