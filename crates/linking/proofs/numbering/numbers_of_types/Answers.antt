use Rattle.std.proofs.Common.{ℕ, List, [], map, subst, ap, ◌∙◌}
use Rattle.std.proofs.lemmas.List.{take_all}
use Rattle.objects.specs.semantics.Program.{Row}
use Rattle.hierarchy.specs.Names.{named, AreFirst}
use Rattle.linking.specs.Numbering.{type_key}
use Rattle.hierarchy.proofs.Numbers.{noted_more, same_note}
use Rattle.linking.proofs.numbering.numbers_of_types.Goals as goal

pub loop-number-preserved : goal.loop-number-preserved
loop-number-preserved c =
    let same = ap (λ (name : List ℕ). named name [] []) (c.as_slice.ensures ∙ c.name-name.ensures) in
    noted_more type_key c.loop-number.numbers c.note.new.self c.args.types.now c.loop-number.number c.index-types-number.result c.loop-number-test.true c.index-types-number.is c.loop-number.invariant
    (same_note c.note.new.self c.loop-number.numbers c.loop-number.number _ _ same c.in_ok-note.ensures)

pub returns : goal.returns
returns c = subst (λ (xs : List Row). AreFirst c.loop-number.numbers (map type_key xs)) (take_all c.loop-number.number c.args.types.now c.loop-number-test.false) c.loop-number.invariant
