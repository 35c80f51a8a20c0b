use Rattle.std.proofs.Common.{◌≡◌, drop}
use Rattle.std.specs.Prelude.{codes}
use Rattle.std.specs.List.{list_any}
use Rattle.jmodel.specs.format.ClassFile.{Member}
use Rattle.jmodel.specs.format.ClassRules.{same_text}
use Rattle.jmodel.specs.format.Pool.{utf8}
use Rattle.hierarchy.proofs.member_faults.have_initialiser.Given as goal

-- whether a method has the name is whether one has that is still to come
abbrev pub invariant-loop-method : goal.invariant-loop-method
invariant-loop-method l = list_any (λ (m : Member). same_text (utf8 l.pool m.name) (codes "<clinit>")) (drop l.method-index l.methods) ≡ list_any (λ (m : Member). same_text (utf8 l.pool m.name) (codes "<clinit>")) l.methods
