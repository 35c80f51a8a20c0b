use Rattle.std.proofs.Common.{List, map, Bor, subst, ap, ◌∙◌}
use Rattle.std.proofs.lemmas.List.{take_all}
use Rattle.jmodel.specs.declared.name.MethodName.{MethodName}
use Rattle.jmodel.specs.format.Pool.{MemberName}
use Rattle.objects.specs.linking.Classes.{Declared, full_name}
use Rattle.hierarchy.specs.Names.{named, AreFirst}
use Rattle.hierarchy.proofs.Each.{map_seen}
use Rattle.hierarchy.proofs.Numbers.{noted_more, same_note}
use Rattle.linking.proofs.numbering.numbers_of_methods.Goals as goal

pub loop-number-preserved : goal.loop-number-preserved
loop-number-preserved c =
    let same = ap (λ (r : MemberName). named r.class r.name r.descriptor) c.name.view_is ∙ c.reference-name.ensures in
    noted_more (λ (m : Bor Declared). full_name m.now) c.loop-number.numbers c.note.new.self c.args.methods.now c.loop-number.number c.index-methods-number.result c.loop-number-test.true c.index-methods-number.is
    c.loop-number.invariant (same_note c.note.new.self c.loop-number.numbers c.loop-number.number _ _ same c.in_ok-note.ensures)

pub returns : goal.returns
returns c =
    let key = λ (m : Bor Declared). full_name m.now in
    subst (λ (names : List MethodName). AreFirst c.loop-number.numbers names) (map_seen full_name c.args.methods.now)
    (subst (λ (ms : List (Bor Declared)). AreFirst c.loop-number.numbers (map key ms)) (take_all c.loop-number.number c.args.methods.now c.loop-number-test.false) c.loop-number.invariant)
