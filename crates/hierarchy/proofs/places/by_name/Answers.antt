use Rattle.std.proofs.Common.{[], List, ℕ, Bor, map, ap, ◌∙◌}
use Rattle.std.specs.Prelude.{position}
use Rattle.std.proofs.lemmas.List.{take_all}
use Rattle.jmodel.specs.format.ClassFile.{ClassFile}
use Rattle.objects.specs.linking.Members.{is_name}
use Rattle.hierarchy.specs.Names.{named}
use Rattle.hierarchy.specs.Places.{class_key}
use Rattle.hierarchy.proofs.Each.{map_seen}
use Rattle.hierarchy.proofs.Numbers.{noted_more, same_note}
use Rattle.hierarchy.proofs.places.by_name.Goals as goal

pub loop-place-preserved : goal.loop-place-preserved
loop-place-preserved c =
    noted_more (λ (k : Bor ClassFile). class_key k.now) c.loop-place.places c.note.new.self c.args.classes.now c.loop-place.place c.index-classes-place.result c.loop-place-test.true c.index-classes-place.is c.loop-place.invariant
    (same_note c.note.new.self c.loop-place.places c.loop-place.place _ _ (ap (λ (name : List ℕ). named name [] []) c.own_name.ensures) c.in_ok-note.ensures)

pub returns : goal.returns
returns c = λ q.
    let key = λ (k : Bor ClassFile). class_key k.now in
    c.loop-place.invariant q ∙ ap (λ (l : List (Bor ClassFile)). position (is_name q) (map key l)) (take_all c.loop-place.place c.args.classes.now c.loop-place-test.false)
    ∙ ap (position (is_name q)) (map_seen class_key c.args.classes.now)
