use Rattle.std.proofs.Common.{◌≡◌, sym, subst, ap, ◌∙◌}
use Rattle.std.specs.Prelude.{IfOk, option_copied}
use Rattle.objects.specs.typing.Typing.{Flow, is_received}
use Rattle.verifier.specs.Flows.{flow_of}
use Rattle.verifier.proofs.Received.{virtual_some}
use Rattle.verifier.proofs.receivers.invoke_virtual.Goals as goal

pub returns : goal.returns
returns c =
    let site = c.args.site.now in
    let called = c.in-Some.called.now in
    let found = sym c.method.ensures ∙ ap option_copied c.in-Some.is in
    let taken = ap (is_received site.program.now c.args.class.now) (sym c.object_under-object.ensures) ∙ sym c.is_received.ensures ∙ c.if-not-is_received.false in
    subst (λ (f : Flow). IfOk c.ruled.result (λ o. flow_of o ≡ f)) (virtual_some site.program.now site.method.now site.pc c.args.entry.now c.args.called c.args.class.now called c.in_ok-rule.rule found c.in_ok-rule.ensures taken) c.ruled.ensures
