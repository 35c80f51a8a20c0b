use Rattle.std.proofs.Common.{ℕ, List, ap, ◌∙◌}
use Rattle.jmodel.specs.declared.name.MethodName.{MethodName}
use Rattle.hierarchy.specs.Selecting.{class_key, class_of}
use Rattle.hierarchy.proofs.Numbers.{noted_more, same_note}
use Rattle.hierarchy.proofs.selection.class_numbers.Goals as goal

pub loop-number-preserved : goal.loop-number-preserved
loop-number-preserved c =
    noted_more class_key c.loop-number.numbers c.note.new.self c.args.methods.now c.loop-number.number c.index-methods-number.result c.loop-number-test.true c.index-methods-number.is c.loop-number.invariant
    (same_note c.note.new.self c.loop-number.numbers c.loop-number.number _ _ (ap (λ (n : List ℕ). class_of n) (c.as_slice.ensures ∙ ap (λ (n : MethodName). n.class) c.name.ensures)) c.in_ok-note.ensures)
