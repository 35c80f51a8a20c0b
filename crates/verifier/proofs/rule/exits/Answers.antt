use Rattle.std.proofs.Common.{◌≡◌, ℕ, ◌+◌, ◌<◌, List, ◌++◌, ◌∷◌, [], length, take, sym, ap, ◌∙◌, arith}
use Rattle.std.proofs.lemmas.List.{take_more}
use Rattle.std.specs.Prelude.{slice_index}
use Rattle.verifier.proofs.rule.exits.Goals as goal

one_more : (exits before after : List ℕ) (n to : ℕ) → n < length exits → before ≡ take n exits → to ≡ slice_index exits n → after ≡ before ++ to ∷ [] → after ≡ take (n + 1) exits
one_more exits before after n to h e f g = g ∙ ap (λ (l : List ℕ). l ++ to ∷ []) e ∙ ap (λ (t : ℕ). take n exits ++ t ∷ []) f ∙ sym (take_more exits n 0 h)

pub loop-number-preserved : goal.loop-number-preserved
loop-number-preserved c =
    let more : c.loop-number.number < length c.exits-exits.result = omega arith in
    one_more c.exits-exits.result _ _ c.loop-number.number c.at.result more c.loop-number.invariant c.at.ensures c.in_ok-push.ensures.items
