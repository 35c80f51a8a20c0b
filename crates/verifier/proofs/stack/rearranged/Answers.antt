use Rattle.std.proofs.Common.{◌≡◌, ◌∙◌, sym, subst, IfOk}
use Rattle.objects.specs.typing.Typing.{Flow}
use Rattle.verifier.specs.Flows.{flow_of}
use Rattle.verifier.proofs.Arranged.{not_arranged, rearranged_by}
use Rattle.verifier.proofs.stack.rearranged.Goals as goal

pub returns-then-not-is_arranged : goal.returns-then-not-is_arranged
returns-then-not-is_arranged c =
    not_arranged c.args.pc c.args.entry.now c.args.op c.stack.result.now c.stack.ensures (sym c.is_arranged.ensures ∙ c.if-not-is_arranged.true)

pub returns : goal.returns
returns c =
    let is = rearranged_by c.args.pc c.args.entry.now c.args.op c.stack.result.now c.stack-2.result.now c.in_ok-types.types.items c.arrangement.result.now c.places.result
    c.stack.ensures (sym c.is_arranged.ensures ∙ c.if-not-is_arranged.false) c.stack-2.ensures c.in_ok-types.ensures c.arrangement.ensures c.places.ensures in
    subst (λ (f : Flow). IfOk c.leaves.result (λ o. flow_of o ≡ f)) is c.leaves.ensures
