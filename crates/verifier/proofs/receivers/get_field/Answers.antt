use Rattle.std.proofs.Common.{◌≡◌, sym, subst, ap, ◌∙◌, arith}
use Rattle.std.proofs.lemmas.Grind.{common_steps}
use Rattle.std.specs.Prelude.{IfOk, slice_get, option_copied}
use Rattle.objects.specs.typing.Typing.{Flow, is_received}
use Rattle.verifier.specs.Flows.{flow_of}
use Rattle.verifier.proofs.Ruled.{get_some}
use Rattle.verifier.proofs.receivers.get_field.Goals as goal

pub returns : goal.returns
returns c =
    let site = c.args.site.now in
    let top : slice_get c.args.entry.now.stack 0 ≡ option_copied c.first.result = grind (arith, common_steps) in
    let taken = ap (is_received site.program.now c.args.class.now) top ∙ sym c.is_received.ensures ∙ c.if-not-is_received.false in
    subst (λ (f : Flow). IfOk c.ruled.result (λ o. flow_of o ≡ f)) (get_some site.program.now site.method.now site.pc c.args.entry.now c.args.field c.args.class.now c.in_ok-rule.rule c.in_ok-rule.ensures taken) c.ruled.ensures
