use Rattle.std.proofs.Common.{◌≡◌, Bool, map, take}
use Rattle.objects.specs.linking.Classes.{Declared}
use Rattle.linking.proofs.rebuild.references.Given as goal

-- the references so far
abbrev pub invariant-loop-method : goal.invariant-loop-method
invariant-loop-method l = map (λ m. m.now) l.all.items ≡ map (λ (p : Declared × Bool). p.0) (take l.method-index l.methods)
