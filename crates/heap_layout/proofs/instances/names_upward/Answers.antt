use Rattle.std.proofs.Common.{◌≡◌, List, ℕ, Bor, ◌++◌, ◌∷◌, [], map, take, sym, ap, ◌∙◌}
use Rattle.std.proofs.lemmas.List.{take_all}
use Rattle.std.proofs.lemmas.Result.{IfOk-from_err}
use Rattle.jmodel.specs.format.ClassFile.{ClassFile}
use Rattle.objects.specs.linking.Members.{own_name}
use Rattle.objects.specs.linking.Superclasses.{lineage}
use Rattle.objects.specs.linking.Layout.{above_last, library_lineage}
use Rattle.hierarchy.proofs.Each.{map_next, map_seen}
use Rattle.hierarchy.proofs.InOrder.{seen}
use Rattle.heap_layout.proofs.instances.names_upward.Goals as goal

pub loop-class-init : goal.loop-class-init
loop-class-init c = c.new-names.ensures.items

pub loop-class-preserved : goal.loop-class-preserved
loop-class-preserved c =
    let items = c.deref-class-items.result.now in
    let i = c.loop-class.class-index in
    let class = c.class-item.result in
    let own = λ (k : Bor ClassFile). own_name k.now in
    ◌∙◌ {A = List (List ℕ)} c.in_ok-push.ensures.items
    (ap (λ (l : List (List ℕ)). l ++ c.in_ok-from_slice.field-0 ∷ []) c.loop-class.invariant ∙ ap (λ (n : List ℕ). map own (take i items) ++ n ∷ []) (c.in_ok-from_slice.ensures ∙ c.own_name.ensures)
    ∙ sym (map_next own items i class c.loop-class-test.true c.class-item.is))

pub returns-in_err-classes : goal.returns-in_err-classes
returns-in_err-classes c = IfOk-from_err _ _ c.from_residual.ensures.0

pub returns-in_err-from_slice : goal.returns-in_err-from_slice
returns-in_err-from_slice c = IfOk-from_err _ _ c.from_residual-in_err-from_slice.ensures.0

pub returns-in_err-push : goal.returns-in_err-push
returns-in_err-push c = IfOk-from_err _ _ c.from_residual-in_err-push.ensures.0

pub returns-in_err-above : goal.returns-in_err-above
returns-in_err-above c = IfOk-from_err _ _ c.from_residual-in_err-above.ensures.0

pub returns-in_err-append : goal.returns-in_err-append
returns-in_err-append c = IfOk-from_err _ _ c.from_residual-in_err-append.ensures.0

pub returns : goal.returns
returns c =
    let cs = c.args.folder.now in
    let name = c.args.name.now in
    let items = c.deref-class-items.result.now in
    let own : c.loop-class.names.items ≡ map own_name (lineage cs name) =
    c.loop-class.invariant ∙ ap (map (λ (k : Bor ClassFile). own_name k.now)) (take_all c.loop-class.class-index items c.loop-class-test.false ∙ c.deref-class-items.ensures.value)
    ∙ map_seen own_name c.in_ok-classes.classes.items ∙ ap (map own_name) c.in_ok-classes.ensures in
    let above : c.in_ok-above.above.items ≡ library_lineage (above_last name (lineage cs name)) =
    c.in_ok-above.ensures ∙ ap library_lineage (c.above_last.ensures ∙ ap (λ (l : List (Bor ClassFile)). above_last name (seen l)) c.as_slice.ensures.value ∙ ap (above_last name) c.in_ok-classes.ensures) in
    c.in_ok-append.ensures.items ∙ ap (λ (l : List (List ℕ)). l ++ c.in_ok-above.above.items) own ∙ ap (λ (l : List (List ℕ)). map own_name (lineage cs name) ++ l) above
