use Rattle.std.proofs.Common.{◌≡◌, ◌∙◌, ℕ, List, [], map, sym, subst}
use Rattle.std.specs.List.{AllByRecursion}
use Rattle.objects.specs.history.Journal.{IsRootCall}
use Rattle.objects.specs.linking.Layout.{opening_state}
use Rattle.objects.specs.linking.Linking.{initialisers_in}
use Rattle.objects.proofs.Links.{links}
use Rattle.driver.specs.SetUp.{OpensTo, EndsSetUp}
use Rattle.runner.proofs.Roots.{all_roots}
use Rattle.runner.proofs.Together.{of_failing, numbered}
use Rattle.runner.proofs.opening.opened.Goals as goal

pub set_up-requires-clause-callable : goal.set_up-requires-clause-callable
set_up-requires-clause-callable c =
    let cs = map (λ k. k.now) c.args.classes.now in
    let P = c.args.original.now in
    let order : c.as_slice.result.now ≡ initialisers_in cs P = c.as_slice.ensures.value ∙ c.in_ok-order.ensures in
    subst (AllByRecursion (λ (m : ℕ). IsRootCall P m [])) (sym order) (all_roots cs P c.requires.read (links cs P c.requires.links))

pub set_up-requires-clause-stands : goal.set_up-requires-clause-stands
set_up-requires-clause-stands c = (opening_state (map (λ k. k.now) c.args.classes.now), c.in_ok-memory.ensures.holds)

pub returns-in-Ok-clause-opens : goal.returns-in-Ok-clause-opens
returns-in-Ok-clause-opens c =
    let cs = map (λ k. k.now) c.args.classes.now in
    let P = c.args.original.now in
    let order : c.as_slice.result.now ≡ initialisers_in cs P = c.as_slice.ensures.value ∙ c.in_ok-order.ensures in
    let Opens : List ℕ → Type 0 = λ ms. OpensTo P c.args.limits.size c.args.limits.budget c.in_ok-memory.memory ms c.in-Ok.memory in
    subst Opens order c.in-Ok.ensures.opens (opening_state cs) c.in_ok-memory.ensures.holds

pub returns-in-Ok-clause-size : goal.returns-in-Ok-clause-size
returns-in-Ok-clause-size c = rw c.in-Ok.ensures.size c.in_ok-memory.ensures.size

pub unopened-requires : goal.unopened-requires
unopened-requires c =
    let cs = map (λ k. k.now) c.args.classes.now in
    let P = c.args.original.now in
    let order : c.as_slice.result.now ≡ initialisers_in cs P = c.as_slice.ensures.value ∙ c.in_ok-order.ensures in
    let Ends : List ℕ → Type 0 = λ ms. EndsSetUp P c.args.limits.size c.args.limits.budget c.in_ok-memory.memory ms c.in-Err.end in
    numbered cs P c.args.limits.size c.args.limits.budget c.in_ok-memory.memory c.in-Err.end c.requires.read c.requires.links (subst Ends order c.in-Err.ensures.cause) c.in_ok-memory.ensures.holds

pub returns-clause-cause : goal.returns-clause-cause
returns-clause-cause c =
    let cs = map (λ k. k.now) c.args.classes.now in
    let P = c.args.original.now in
    let order : c.as_slice.result.now ≡ initialisers_in cs P = c.as_slice.ensures.value ∙ c.in_ok-order.ensures in
    let stands = c.in_ok-memory.ensures.holds in
    let Ends : List ℕ → Type 0 = λ ms. EndsSetUp P c.args.limits.size c.args.limits.budget c.in_ok-memory.memory ms c.in-Err.end in
    let cause = subst Ends order c.in-Err.ensures.cause in
    of_failing cs P c.args.limits.size c.args.limits.budget c.in_ok-memory.memory c.in-Err.end c.unopened.result
    (numbered cs P c.args.limits.size c.args.limits.budget c.in_ok-memory.memory c.in-Err.end c.requires.read c.requires.links cause stands) cause stands c.unopened.ensures
