use Rattle.std.proofs.Common.{◌≡◌, ℕ, ◌+◌, ◌++◌, ◌∷◌, [], List, Bor, drop, get_or, sym, ap, ◌∙◌, append_assoc, add-one}
use Rattle.objects.specs.linking.Layout.{places_from}
use Rattle.hierarchy.proofs.Each.{item_at}
use Rattle.hierarchy.proofs.InOrder.{texts}
use Rattle.heap_layout.proofs.texts.places_from.Goals as goal

pub loop-text-preserved : goal.loop-text-preserved
loop-text-preserved c =
    let all = c.args.texts.now in
    let i = c.loop-text._text-index in
    let before = c.loop-text.places.items in
    let place = c.loop-text.place in
    let none : Bor (List ℕ) = record { ref_ptr = (0, 0); now = [] } in
    let rest = texts (drop (i + 1) all) in
    let item : texts (drop i all) ≡ (get_or all i none).now ∷ rest = ap texts (item_at all i none c.loop-text-test.true) in
    ap (λ (l : List ℕ). l ++ places_from c.in_ok-place.place rest) c.in_ok-push.ensures.items
    ∙ append_assoc before (place ∷ []) (places_from c.in_ok-place.place rest)
    ∙ ap (λ (n : ℕ). before ++ (place ∷ places_from n rest)) (c.in_ok-place.ensures ∙ add-one place)
    ∙ sym (ap (λ (l : List (List ℕ)). before ++ places_from place l) item) ∙ c.loop-text.invariant
