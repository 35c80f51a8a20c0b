use Rattle.std.proofs.Common.{ℕ, List, ◌++◌, ◌∷◌, [], Option, map, take, sym, ap, ◌∙◌}
use Rattle.std.proofs.lemmas.Result.{IfOk-from_err}
use Rattle.objects.specs.semantics.Program.{Method}
use Rattle.hierarchy.specs.Names.{number_of}
use Rattle.hierarchy.specs.Selecting.{group_key}
use Rattle.hierarchy.proofs.Each.{map_next}
use Rattle.hierarchy.proofs.selection.groups_of.Goals as goal

pub loop-method-preserved : goal.loop-method-preserved
loop-method-preserved c =
    let group = λ (k : Method). number_of c.args.groups.now (group_key k) in
    let methods = c.args.methods.now in
    let i = c.loop-method.method-index in
    c.in_ok-push.ensures.items ∙ ap (λ (l : List (Option ℕ)). l ++ c.group_of.result ∷ []) c.loop-method.invariant ∙ ap (λ (o : Option ℕ). map group (take i methods) ++ o ∷ []) c.group_of.ensures
    ∙ sym (map_next group methods i c.method-item.result c.loop-method-test.true c.method-item.is)

pub returns-in_err-push : goal.returns-in_err-push
returns-in_err-push c = IfOk-from_err _ _ c.from_residual.ensures.0
