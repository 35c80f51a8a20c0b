use Rattle.std.proofs.Common.{None, false, refl, sym, ◌∙◌, subst}
use Rattle.objects.specs.typing.Typing.{types_at}
use Rattle.verifier.specs.Settled.{IsMarked}
use Rattle.verifier.specs.Visits.{Step}
use Rattle.verifier.proofs.Brought.{step_right}
use Rattle.verifier.proofs.Visits.{visit_is, visited}
use Rattle.verifier.proofs.visit.visit.Goals as goal

pub follow-requires-clause-left : goal.follow-requires-clause-left
follow-requires-clause-left c =
    let T = c.args.search.now.table in
    let left = (step_right c.args.program.now c.args.method.now c.args.pc (types_at T c.args.pc) c.requires.itself c.in-Some.step (sym c.in_ok-step.ensures ∙ c.in-Some.is)).1 in
    subst (λ (s : Step). IsMarked c.args.program.now s.left) (sym c.in_ok-step-in-Some.ensures.step) left

pub returns-in_ok-step-in-Some : goal.returns-in_ok-step-in-Some
returns-in_ok-step-in-Some c =
    let step = c.in_ok-step-in-Some.ensures in
    visited c.args.program.now c.args.method.now c.args.pc c.follow.result c.in-Some.step _ c.args.search.now _ _ step.step step.search (sym c.in-Some.is ∙ c.in_ok-step.ensures) c.follow.ensures

pub returns-in-None : goal.returns-in-None
returns-in-None c = visit_is c.args.program.now c.args.method.now c.args.pc c.args.search.now _ false None (sym c.in-None.is ∙ c.in_ok-step.ensures) refl
