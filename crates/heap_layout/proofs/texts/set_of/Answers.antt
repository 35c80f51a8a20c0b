use Rattle.std.proofs.Common.{◌≡◌, ℕ, List, Bor, map, reverse, rules, sym, ap, ◌∙◌}
use Rattle.std.specs.Slice.Iter.{iter_rest}
use Rattle.std.specs.Iterator.Adapters.{rev_source}
use Rattle.std.proofs.lemmas.List.{reverse-reverse}
use Rattle.std.proofs.lemmas.Iterator.Adapters.{YieldsList-from_rev_slice}
use Rattle.std.proofs.lemmas.Iterator.Consumers.{YieldsList-end}
use Rattle.objects.specs.linking.Layout.{with_text, in_text_order}
use Rattle.hierarchy.proofs.InOrder.{texts}
use Rattle.heap_layout.proofs.Sorted.{inserted, last_first}
use Rattle.heap_layout.proofs.texts.set_of.Goals as goal

pub loop-text-preserved : goal.loop-text-preserved
loop-text-preserved c =
    let text = c.in-Some.text in
    let before = texts (reverse (map (λ t. t.now) c.loop-text.yielded)) in
    ap texts c.in_ok-insert.ensures.keys ∙ inserted c.loop-text.set.keys text.now ∙ ap (with_text text.now.now) c.loop-text.invariant
    ∙ ap (λ (l : List (Bor (List ℕ))). in_text_order (texts l)) (sym (last_first c.loop-text.yielded text))

pub returns : goal.returns
returns c =
    let all_texts = c.args.texts.now in
    let source : iter_rest (rev_source c.into_iter-text-iterator.result) ≡ all_texts = first_of (cc, search rules) in
    let all = YieldsList-end (YieldsList-from_rev_slice all_texts source) c.loop-text.yielded _ c.loop-text.yielded_by _ _ c.in-None.is c.next.ensures.steps in
    let whole : reverse (map (λ t. t.now) c.loop-text.yielded) ≡ all_texts = ap (λ (l : List (Bor (List ℕ))). reverse l) all.0 ∙ reverse-reverse all_texts in
    c.loop-text.invariant ∙ ap (λ (l : List (Bor (List ℕ))). in_text_order (texts l)) whole
