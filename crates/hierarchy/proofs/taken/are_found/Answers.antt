use Rattle.std.proofs.Common.{Bool, List, ◌++◌, ◌∷◌, [], map, take, sym, ap, ◌∙◌}
use Rattle.std.proofs.lemmas.Result.{IfOk-from_err}
use Rattle.hierarchy.specs.Search.{is_found}
use Rattle.hierarchy.proofs.Each.{map_next}
use Rattle.hierarchy.proofs.taken.are_found.Goals as goal

pub loop-method-preserved : goal.loop-method-preserved
loop-method-preserved c =
    let found = is_found c.args.called.now in
    let methods = c.args.methods.now in
    let i = c.loop-method.method-index in
    ◌∙◌ {A = List Bool} c.in_ok-push.ensures.items
    (ap (λ (l : List Bool). l ++ c.is_found.result ∷ []) c.loop-method.invariant ∙ ap (λ (b : Bool). map found (take i methods) ++ b ∷ []) c.is_found.ensures
    ∙ sym (map_next found methods i c.method-item.result c.loop-method-test.true c.method-item.is))

pub returns-in_err-push : goal.returns-in_err-push
returns-in_err-push c = IfOk-from_err _ _ c.from_residual.ensures.0
