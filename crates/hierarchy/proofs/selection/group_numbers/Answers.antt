use Rattle.std.proofs.Common.{refl, ap, ◌∙◌}
use Rattle.jmodel.specs.declared.name.MethodName.{MethodName}
use Rattle.hierarchy.specs.Selecting.{group_key}
use Rattle.hierarchy.proofs.Numbers.{noted_more, same_note, same_names}
use Rattle.hierarchy.proofs.selection.group_numbers.Goals as goal

pub loop-number-preserved : goal.loop-number-preserved
loop-number-preserved c =
    noted_more group_key c.loop-number.numbers c.note.new.self c.args.methods.now c.loop-number.number c.index-methods-number.result c.loop-number-test.true c.index-methods-number.is c.loop-number.invariant
    (same_note c.note.new.self c.loop-number.numbers c.loop-number.number _ _
    (same_names _ _ _ _ _ _ refl (c.as_slice.ensures ∙ ap (λ (n : MethodName). n.name) c.name-name.ensures) (c.as_slice-in-loop-number.ensures ∙ ap (λ (n : MethodName). n.descriptor) c.name-name.ensures)) c.in_ok-note.ensures)
