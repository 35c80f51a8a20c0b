use Rattle.std.proofs.Common.{◌∙◌, sym, ap, refl, length}
use Rattle.objects.specs.typing.TypeOrder.{is_within}
use Rattle.verifier.specs.Order.{are_within}
use Rattle.verifier.proofs.Runs.{plain_within, within_run, parts_within, and_rest}
use Rattle.verifier.proofs.merging.+are_settled.Goals as goal

pub returns-then-not-has_names : goal.returns-then-not-has_names
returns-then-not-has_names t c = λ _. plain_within c.args.program.now c.args.types.now (sym c.has_names.ensures ∙ c.if-not-has_names.true)

pub returns-in-Run : goal.returns-in-Run
returns-in-Run t c = λ b.
    let P = c.args.program.now in
    let ts = c.args.types.now in
    let i = c.in-Run.item.now in
    ap (λ us. are_within P us us) c.in-Run.ensures.0 ∙ within_run P (length ts) i i c.in-Run.ensures.1
    ∙ sym (c.is_within.ensures ∙ ap (λ x. is_within P x c.as_type-in-Run.result.now) c.as_type.ensures ∙ ap (is_within P i) c.as_type-in-Run.ensures) ∙ b

pub returns-then-are_settled : goal.returns-then-are_settled
returns-then-are_settled t c = λ b.
    let f = c.in-Fork in
    let l = f.left.now in
    let r = f.right.now in
    sym (and_rest _ _ _ (parts_within c.args.program.now c.args.types.now c.args.types.now l r l r f.ensures.0 f.ensures.0 refl) (c.are_settled.ensures c.if-are_settled.true)) ∙ c.are_settled-then-are_settled.ensures b
