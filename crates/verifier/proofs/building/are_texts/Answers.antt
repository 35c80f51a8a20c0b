use Rattle.std.proofs.Common.{◌≡◌, ◌∙◌, ap, sym, true, false}
use Rattle.jmodel.specs.declared.typing.VType.TheVariants.{Ref}
use Rattle.objects.specs.typing.TypeOrder.{is_within, string_class}
use Rattle.verifier.proofs.Texts.{no_text, texts_step}
use Rattle.verifier.proofs.building.are_texts.Goals as goal

pub returns-in_default : goal.returns-in_default
returns-in_default c =
    let P = c.args.program.now in
    let item = c.in-Some.item.now in
    let below : is_within P item (Ref string_class) ≡ false = ap (λ n. is_within P item (Ref n)) (sym c.string_class.ensures) ∙ sym c.is_below.ensures ∙ c.if-is_below.false in
    sym (c.loop-place.invariant ∙ no_text P c.args.count c.loop-place.place (Ref string_class) c.args.stack.now c.loop-place-test.true item c.in-Some.ensures below)

pub loop-place-preserved : goal.loop-place-preserved
loop-place-preserved c =
    let P = c.args.program.now in
    let item = c.in-Some.item.now in
    let below : is_within P item (Ref string_class) ≡ true = ap (λ n. is_within P item (Ref n)) (sym c.string_class.ensures) ∙ sym c.is_below.ensures ∙ c.if-is_below.true in
    c.loop-place.invariant ∙ texts_step P c.args.count c.loop-place.place (Ref string_class) c.args.stack.now c.loop-place-test.true item c.in-Some.ensures below
