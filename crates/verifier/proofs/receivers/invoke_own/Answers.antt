use Rattle.std.proofs.Common.{◌≡◌, sym, subst, ap, ◌∙◌}
use Rattle.std.specs.Prelude.{IfOk}
use Rattle.objects.specs.typing.TypeOrder.{name_read}
use Rattle.objects.specs.typing.Typing.{Flow}
use Rattle.verifier.specs.Flows.{flow_of, is_at_most}
use Rattle.verifier.proofs.Received.{own_some, own_none}
use Rattle.verifier.proofs.receivers.invoke_own.Goals as goal

pub returns-then-not-branch : goal.returns-then-not-branch
returns-then-not-branch c =
    let site = c.args.site.now in
    let taken = ap (is_at_most site.program.now (name_read site.program.now site.method.now.name.class)) (sym c.object_under-object.ensures) ∙ sym c.in_ok-is_own.ensures ∙ c.if-not-branch.true in
    own_none site.program.now site.method.now site.pc c.args.entry.now c.args.called.now taken

pub returns : goal.returns
returns c =
    let site = c.args.site.now in
    let taken = ap (is_at_most site.program.now (name_read site.program.now site.method.now.name.class)) (sym c.object_under-object.ensures) ∙ sym c.in_ok-is_own.ensures ∙ c.if-not-branch.false in
    subst (λ (f : Flow). IfOk c.ruled.result (λ o. flow_of o ≡ f)) (own_some site.program.now site.method.now site.pc c.args.entry.now c.args.called.now c.in_ok-rule.rule c.in_ok-rule.ensures taken) c.ruled.ensures
