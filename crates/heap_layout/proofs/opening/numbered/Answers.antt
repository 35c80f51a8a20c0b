use Rattle.std.proofs.Common.{List, [], ℕ, Bor, map, get_or, ap, ◌∙◌}
use Rattle.std.specs.Prelude.{position}
use Rattle.std.proofs.lemmas.List.{take_all}
use Rattle.objects.specs.linking.Members.{is_name}
use Rattle.hierarchy.proofs.Each.{map_seen}
use Rattle.hierarchy.proofs.Numbers.{noted_more}
use Rattle.heap_layout.specs.Opening.{text_key}
use Rattle.heap_layout.proofs.ClassRows.{same_item}
use Rattle.heap_layout.proofs.opening.numbered.Goals as goal

pub loop-number-preserved : goal.loop-number-preserved
loop-number-preserved c =
    let texts = c.args.texts.now in
    let i = c.loop-number.number in
    let none : Bor (List ℕ) = record { ref_ptr = (0, 0); now = [] } in
    let text = get_or texts i none in
    noted_more (λ (t : Bor (List ℕ)). text_key t.now) c.loop-number.numbers c.note.new.self texts i text c.loop-number-test.true (same_item texts i none text c.loop-number-test.true) c.loop-number.invariant
    c.in_ok-note.ensures

pub returns : goal.returns
returns c = λ q.
    let key = λ (t : Bor (List ℕ)). text_key t.now in
    c.loop-number.invariant q ∙ ap (λ (l : List (Bor (List ℕ))). position (is_name q) (map key l)) (take_all c.loop-number.number c.args.texts.now c.loop-number-test.false)
    ∙ ap (position (is_name q)) (map_seen text_key c.args.texts.now)
