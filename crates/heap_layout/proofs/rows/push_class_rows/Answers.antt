use Rattle.std.proofs.Common.{◌≡◌, List, Bor, ◌∷◌, [], ◌++◌, map, take, sym, ap, ◌∙◌, append_assoc}
use Rattle.std.proofs.lemmas.List.{append-nil, take_all}
use Rattle.std.proofs.lemmas.Result.{IfOk-from_err}
use Rattle.jmodel.specs.format.ClassFile.{ClassFile}
use Rattle.objects.specs.semantics.Program.{Row}
use Rattle.objects.specs.linking.Layout.{class_row}
use Rattle.hierarchy.proofs.Each.{map_next, map_seen}
use Rattle.heap_layout.proofs.rows.push_class_rows.Goals as goal

pub loop-class-init : goal.loop-class-init
loop-class-init c = sym (append-nil c.args.rows.now.items)

pub loop-class-preserved : goal.loop-class-preserved
loop-class-preserved c =
    let cs = c.args.hierarchy.now in
    let classes = c.classes-class-items.result.now in
    let i = c.loop-class.class-index in
    let class = c.class-item.result in
    let row = λ (k : Bor ClassFile). class_row cs k.now in
    let before = c.args.rows.now.items in
    let put : ◌≡◌ {A = List Row} c.push.new.self.items (c.loop-class.rows.items ++ class_row cs class.now ∷ []) =
    ◌∙◌ {A = List Row} c.in_ok-push.ensures.items (ap (λ (r : Row). c.loop-class.rows.items ++ r ∷ []) c.in_ok-class_row.ensures) in
    put ∙ ap (λ (l : List Row). l ++ class_row cs class.now ∷ []) c.loop-class.invariant ∙ append_assoc before (map row (take i classes)) (class_row cs class.now ∷ [])
    ∙ ap (λ (l : List Row). before ++ l) (sym (map_next row classes i class c.loop-class-test.true c.class-item.is))

pub returns-in_err-class_row : goal.returns-in_err-class_row
returns-in_err-class_row c = IfOk-from_err _ _ c.from_residual.ensures.0

pub returns-in_err-push : goal.returns-in_err-push
returns-in_err-push c = IfOk-from_err _ _ c.from_residual-in_err-push.ensures.0

pub returns : goal.returns
returns c =
    let cs = c.args.hierarchy.now in
    let classes = c.classes-class-items.result.now in
    let before = c.args.rows.now.items in
    c.loop-class.invariant
    ∙ ap (λ (l : List (Bor ClassFile)). before ++ map (λ (k : Bor ClassFile). class_row cs k.now) l) (take_all c.loop-class.class-index classes c.loop-class-test.false)
    ∙ ap (λ (l : List Row). before ++ l) (map_seen (class_row cs) classes ∙ ap (map (class_row cs)) (c.classes-class-items.ensures ∙ c.folder.ensures))
