use Rattle.std.proofs.Common.{Bool, List, map, refl, sym, ap, ◌∷◌, [], ◌++◌, ◌∙◌}
use Rattle.std.proofs.lemmas.List.{take_all}
use Rattle.std.proofs.lemmas.Result.{IfOk-from_err}
use Rattle.objects.specs.linking.Classes.{Declared}
use Rattle.hierarchy.proofs.Each.{seen_next, map_next}
use Rattle.linking.proofs.rebuild.references.Goals as goal

pub loop-method-init : goal.loop-method-init
loop-method-init c = rw c.new-all.ensures.items refl

pub returns-in_err-push : goal.returns-in_err-push
returns-in_err-push c = IfOk-from_err _ _ c.from_residual.ensures.0

pub loop-method-preserved : goal.loop-method-preserved
loop-method-preserved c =
    let pair = c.loop-method-item.result in
    let first = λ (p : Declared × Bool). p.0 in
    seen_next c.loop-method.all.items _ c.push.new.self.items c.in_ok-push.ensures.items ∙ ap (λ (l : List Declared). l ++ pair.0 ∷ []) c.loop-method.invariant
    ∙ sym (map_next first c.args.methods.now c.loop-method.method-index pair c.loop-method-test.true c.loop-method-item.is)

pub returns : goal.returns
returns c = c.loop-method.invariant ∙ ap (map (λ (p : Declared × Bool). p.0)) (take_all c.loop-method.method-index c.args.methods.now c.loop-method-test.false)
