use Rattle.std.proofs.Common.{◌≡◌, ◌-◌, ◌++◌, ℕ, false, List, [], ◌∷◌, length, slice_set, ap, ◌∙◌, arith}
use Rattle.std.proofs.lemmas.List.{length_push}
use Rattle.tl2.specs.declared.plan.Stripe.{Stripe}
use Rattle.lsa.proofs.Owned.{set_last}
use Rattle.lsa.proofs.writing.fill_last.Goals as goal

pub returns-then-count-gt0 : goal.returns-then-count-gt0
returns-then-count-gt0 c = λ before last is.
    let t : Stripe = record { address = c.args.address; was_read = false; word = c.args.word } in
    let counted = ap (λ (xs : List Stripe). length xs) is in
    let more = length_push before last in
    let n : c.len-count.result - 1 ≡ length before = omega (arith, c.len-count.ensures, counted, more) in
    ap (λ (xs : List Stripe). slice_set xs (c.len-count.result - 1) t) is ∙ ap (λ (k : ℕ). slice_set (before ++ last ∷ []) k t) n ∙ set_last before last t
