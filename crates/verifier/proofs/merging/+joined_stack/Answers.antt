use Rattle.std.proofs.Common.{◌≡◌, ◌∙◌, ◌++◌, IfOk, sym, subst, length, refl}
use Rattle.verifier.specs.Order.{join_all}
use Rattle.verifier.proofs.Halves.{stack_join}
use Rattle.verifier.proofs.merging.+joined_stack.Goals as goal

pub returns-in_ok-under-in-Some-Some : goal.returns-in_ok-under-in-Some-Some
returns-in_ok-under-in-Some-Some t c =
    let f = c.in-Some-Some in
    let same : length f.part.now ≡ length f.other.now = sym c.len.ensures ∙ c.if-len.true ∙ c.len-in-Some-split-2.ensures in
    let part = c.in_ok-part-in-Some-Some.part in
    let under = c.in_ok-under-in-Some-Some.under in
    let is : part ++ under ≡ join_all c.args.program.now c.args.a.now c.args.b.now =
    stack_join c.args.program.now c.args.a.now c.args.b.now f.part.now f.under.now f.other.now f.under_other.now part under (part ++ under) f.ensures.some f.ensures'.some same c.in_ok-part-in-Some-Some.ensures c.in_ok-under-in-Some-Some.ensures refl in
    subst (λ v. IfOk c.push_part.result (λ s. s ≡ v)) is c.push_part.ensures
