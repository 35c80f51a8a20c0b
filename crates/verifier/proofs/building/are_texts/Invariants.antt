use Rattle.std.proofs.Common.{◌≡◌, ◌-◌, drop, replicate}
use Rattle.jmodel.specs.declared.typing.VType.TheVariants.{Ref}
use Rattle.objects.specs.typing.TypeOrder.{string_class}
use Rattle.verifier.specs.Rules.{are_taken}
use Rattle.verifier.proofs.building.are_texts.Given as goal

abbrev pub invariant-loop-place : goal.invariant-loop-place
invariant-loop-place l = are_taken l.program (replicate l.count (Ref string_class)) l.stack ≡ are_taken l.program (replicate (l.count - l.place) (Ref string_class)) (drop l.place l.stack)
