use Rattle.std.proofs.Common.{◌≡◌, Bool, map, take}
use Rattle.std.specs.Prelude.{filter}
use Rattle.objects.specs.linking.Classes.{Declared}
use Rattle.hierarchy.proofs.taken.taken_among.Given as goal

-- the taken methods so far
abbrev pub invariant-loop-i : goal.invariant-loop-i
invariant-loop-i l = (p : Declared → Bool) → l.taken ≡ map p l.methods → map (λ m. m.now) l.chosen.items ≡ filter p (take l.i l.methods)
