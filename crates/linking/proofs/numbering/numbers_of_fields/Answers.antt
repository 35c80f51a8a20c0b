use Rattle.std.proofs.Common.{List, map, subst, ap, ◌∙◌}
use Rattle.std.proofs.lemmas.List.{take_all}
use Rattle.objects.specs.semantics.Program.{Field}
use Rattle.hierarchy.specs.Names.{AreFirst}
use Rattle.linking.specs.Numbering.{field_key}
use Rattle.hierarchy.proofs.Numbers.{noted_more, same_names, same_note}
use Rattle.linking.proofs.numbering.numbers_of_fields.Goals as goal

pub loop-number-preserved : goal.loop-number-preserved
loop-number-preserved c =
    let same = same_names _ c.index-fields-number.result.class _ c.index-fields-number.result.name _ c.index-fields-number.result.descriptor (c.as_slice.ensures ∙ ap (λ (f : Field). f.class) c.field.view_is) (c.as_slice-in-loop-number.ensures ∙ ap (λ (f : Field). f.name) c.field.view_is) (c.as_slice-in-loop-number-2.ensures ∙ ap (λ (f : Field). f.descriptor) c.field.view_is) in
    noted_more field_key c.loop-number.numbers c.note.new.self c.args.fields.now c.loop-number.number c.index-fields-number.result c.loop-number-test.true c.index-fields-number.is c.loop-number.invariant
    (same_note c.note.new.self c.loop-number.numbers c.loop-number.number _ _ same c.in_ok-note.ensures)

pub returns : goal.returns
returns c = subst (λ (xs : List Field). AreFirst c.loop-number.numbers (map field_key xs)) (take_all c.loop-number.number c.args.fields.now c.loop-number-test.false) c.loop-number.invariant
