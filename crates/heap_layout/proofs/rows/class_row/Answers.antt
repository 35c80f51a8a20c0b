use Rattle.std.proofs.Common.{◌≡◌, List, false, sym, ap, ◌∙◌}
use Rattle.std.proofs.lemmas.Result.{IfOk-from_err}
use Rattle.jmodel.specs.format.ClassFile.{ClassFile}
use Rattle.objects.specs.linking.Members.{own_name}
use Rattle.objects.specs.linking.Resolution.{is_interface}
use Rattle.objects.specs.linking.Layout.{words_upward, names_upward, class_instances}
use Rattle.heap_layout.proofs.ClassRows.{class_row_is}
use Rattle.heap_layout.proofs.rows.class_row.Goals as goal

pub returns-in_err-from_slice : goal.returns-in_err-from_slice
returns-in_err-from_slice c = IfOk-from_err _ _ c.from_residual.ensures.0

pub returns-in_err-from_slice-2 : goal.returns-in_err-from_slice-2
returns-in_err-from_slice-2 c = IfOk-from_err _ _ c.from_residual-in_err-from_slice-2.ensures.0

pub returns-in_err-words_upward : goal.returns-in_err-words_upward
returns-in_err-words_upward c = IfOk-from_err _ _ c.from_residual-in_err-words_upward.ensures.0

pub returns-in_err-names_upward : goal.returns-in_err-names_upward
returns-in_err-names_upward c = IfOk-from_err _ _ c.from_residual-in_err-names_upward.ensures.0

pub returns-in_err-class_instances : goal.returns-in_err-class_instances
returns-in_err-class_instances c = IfOk-from_err _ _ c.from_residual-in_err-class_instances.ensures.0

pub returns : goal.returns
returns c =
    let cs = c.args.hierarchy.now in
    let class = c.args.class.now in
    let test : is_interface class ≡ false = sym c.is_interface.ensures ∙ c.if-is_interface.false in
    let own : c.own_name-name.result.now ≡ own_name class = c.own_name-name.ensures in
    let name : c.in_ok-from_slice.field-0 ≡ own_name class = c.in_ok-from_slice.ensures ∙ own in
    let read : c.in_ok-from_slice-2.field-0 ≡ own_name class = c.in_ok-from_slice-2.ensures ∙ own in
    let words : c.in_ok-words_upward.field-0.items ≡ words_upward cs (own_name class) =
    c.in_ok-words_upward.ensures ∙ ap (λ (ds : List ClassFile). words_upward ds c.own_name-name.result.now) c.folder.ensures ∙ ap (words_upward cs) own in
    let lineage : c.in_ok-names_upward.field-0.items ≡ names_upward cs (own_name class) =
    c.in_ok-names_upward.ensures ∙ ap (λ (ds : List ClassFile). names_upward ds c.own_name-name.result.now) c.folder-2.ensures ∙ ap (names_upward cs) own in
    let all : c.in_ok-class_instances.field-0.items ≡ class_instances cs (own_name class) = c.in_ok-class_instances.ensures ∙ ap (class_instances cs) own in
    c.new-2.ensures
    ∙ class_row_is cs class c.in_ok-from_slice.field-0 c.in_ok-from_slice-2.field-0 c.in_ok-words_upward.field-0.items c.in_ok-names_upward.field-0.items c.in_ok-class_instances.field-0.items test name read words lineage all
