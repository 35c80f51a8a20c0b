use Rattle.std.proofs.Common.{◌≡◌, Bool, map, take}
use Rattle.std.specs.Prelude.{filter}
use Rattle.jmodel.specs.format.ClassFile.{Member}
use Rattle.rewriter.proofs.share.chosen.Given as goal

-- those among the methods so far
abbrev pub invariant-loop-i : goal.invariant-loop-i
invariant-loop-i l = (p : Member → Bool) → l.flags ≡ map p l.methods → map (λ m. m.now) l.chosen.items ≡ filter p (take l.i l.methods)
