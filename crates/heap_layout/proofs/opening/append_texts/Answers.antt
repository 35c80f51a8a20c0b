use Rattle.std.proofs.Common.{◌≡◌, List, ℕ, Bor, ◌∷◌, [], ◌++◌, ◌+◌, map, take, get_or, sym, ap, ◌∙◌, append_assoc}
use Rattle.std.proofs.lemmas.List.{take_more, map-append}
use Rattle.objects.specs.semantics.State.{header}
use Rattle.objects.specs.linking.Layout.{text_object}
use Rattle.hierarchy.proofs.InOrder.{texts}
use Rattle.heap_layout.proofs.opening.append_texts.Goals as goal

pub loop-text-preserved : goal.loop-text-preserved
loop-text-preserved c =
    let all = c.args.texts.now in
    let i = c.loop-text._text-index in
    let before = c.args.words.now.items in
    let none : Bor (List ℕ) = record { ref_ptr = (0, 0); now = [] } in
    let word = λ (t : List ℕ). header text_object in
    let more : map word (texts (take (i + 1) all)) ≡ map word (texts (take i all)) ++ header text_object ∷ [] =
    ap (λ (l : List (Bor (List ℕ))). map word (texts l)) (take_more all i none c.loop-text-test.true) ∙ ap (map word) (map-append (λ (t : Bor (List ℕ)). t.now) (take i all) (get_or all i none ∷ []))
    ∙ map-append word (texts (take i all)) ((get_or all i none).now ∷ []) in
    c.in_ok-push.ensures.items ∙ ap (λ (l : List ℕ). l ++ header text_object ∷ []) c.loop-text.invariant ∙ append_assoc before (map word (texts (take i all))) (header text_object ∷ [])
    ∙ ap (λ (l : List ℕ). before ++ l) (sym more)
