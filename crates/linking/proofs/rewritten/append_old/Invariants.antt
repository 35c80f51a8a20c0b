use Rattle.std.proofs.Common.{◌≡◌, ◌++◌, map, take}
use Rattle.std.specs.Prelude.{filter}
use Rattle.objects.specs.linking.Classes.{declared_in}
use Rattle.objects.specs.rewriting.Relinking.{is_of, is_counted_old}
use Rattle.linking.proofs.rewritten.append_old.Given as goal

-- those so far that the program has
abbrev pub invariant-loop-member : goal.invariant-loop-member
invariant-loop-member l = l.methods.items ≡ l.fn.methods.items ++ map (λ k. (k, is_counted_old k)) (filter (is_of l.counts) (declared_in l.class (take l.member-index l.member-items)))
