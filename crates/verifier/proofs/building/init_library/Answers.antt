use Rattle.std.proofs.Common.{◌≡◌, true, false, sym, subst, ap, ◌∙◌}
use Rattle.std.specs.Prelude.{IfOk, replicate}
use Rattle.jmodel.specs.declared.typing.VType.TheVariants as type
use Rattle.objects.specs.typing.TypeOrder.{string_class}
use Rattle.objects.specs.typing.Typing.{Flow}
use Rattle.verifier.specs.Flows.{flow_of}
use Rattle.verifier.specs.Rules.{are_taken}
use Rattle.verifier.proofs.Constructing.{library_by}
use Rattle.verifier.proofs.building.init_library.Goals as goal

pub returns-then-are_texts : goal.returns-then-are_texts
returns-then-are_texts c =
    let site = c.args.site.now in
    let texts = replicate c.args.places (type.Ref string_class) in
    subst (λ (f : Flow). IfOk c.constructs.result (λ o. flow_of o ≡ f))
    (library_by site.program.now site.method.now site.pc c.args.entry.now c.args.class.now c.args.places true (ap (are_taken site.program.now texts) (sym c.stack.ensures) ∙ sym c.are_texts.ensures ∙ c.if-are_texts.true))
    c.constructs.ensures

pub returns-else-are_texts : goal.returns-else-are_texts
returns-else-are_texts c =
    let site = c.args.site.now in
    let texts = replicate c.args.places (type.Ref string_class) in
    library_by site.program.now site.method.now site.pc c.args.entry.now c.args.class.now c.args.places false (ap (are_taken site.program.now texts) (sym c.stack.ensures) ∙ sym c.are_texts.ensures ∙ c.if-are_texts.false)
