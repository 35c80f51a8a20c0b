use Rattle.std.proofs.Common.{◌≡◌, List, ℕ, ◌++◌, ap, ◌∙◌}
use Rattle.std.proofs.lemmas.Result.{IfOk-from_err}
use Rattle.jmodel.specs.format.ClassFile.{ClassFile}
use Rattle.objects.specs.linking.Layout.{names_upward}
use Rattle.hierarchy.proofs.InOrder.{texts}
use Rattle.heap_layout.proofs.instances.class_instances.Goals as goal

pub returns-in_err-names : goal.returns-in_err-names
returns-in_err-names c = IfOk-from_err _ _ c.from_residual.ensures.0

pub returns-in_err-interfaces : goal.returns-in_err-interfaces
returns-in_err-interfaces c = IfOk-from_err _ _ c.from_residual-in_err-interfaces.ensures.0

pub returns-in_err-append : goal.returns-in_err-append
returns-in_err-append c = IfOk-from_err _ _ c.from_residual-in_err-append.ensures.0

pub returns-in_err-copies : goal.returns-in_err-copies
returns-in_err-copies c = IfOk-from_err _ _ c.from_residual-in_err-copies.ensures.0

pub returns : goal.returns
returns c =
    let cs = c.args.hierarchy.now in
    let name = c.args.name.now in
    let above : c.in_ok-names.names.items ≡ names_upward cs name = c.in_ok-names.ensures ∙ ap (λ (ds : List ClassFile). names_upward ds name) c.folder.ensures in
    let listed = c.in_ok-copies.ensures ∙ ap texts c.as_slice.ensures.value ∙ c.in_ok-interfaces.ensures in
    c.in_ok-append.ensures.items ∙ ap (λ (l : List (List ℕ)). l ++ c.in_ok-copies.field-0.items) above ∙ ap (λ (l : List (List ℕ)). names_upward cs name ++ l) listed
