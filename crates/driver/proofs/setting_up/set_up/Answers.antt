use Rattle.std.proofs.Common.{◌≡◌, ℕ, suc, List, ◌∷◌, ◌++◌, take, drop, slice_index_or, refl, sym, ap, ◌∙◌, subst, drop-cons}
use Rattle.std.proofs.lemmas.List.{take_all, take_more, take-append-drop}
use Rattle.objects.specs.semantics.State.{State}
use Rattle.driver.specs.Memory.{Holds}
use Rattle.objects.specs.semantics.Opening.{Fails}
use Rattle.driver.specs.SetUp.{OpensTo}
use Rattle.driver.proofs.SettingUp.{IsCallable, opens_none, opens_after, fails_at, at_index}
use Rattle.driver.proofs.setting_up.set_up.Goals as goal

pub loop-number-init : goal.loop-number-init
loop-number-init c = record { opens = opens_none c.args.original.now c.args.limits.size c.args.limits.budget c.args.memory; size = refl }

pub call_alone-requires-clause-stands : goal.call_alone-requires-clause-stands
call_alone-requires-clause-stands c =
    let first = c.requires.stands in
    let here = c.loop-number.invariant.opens first.0 first.1 in
    (here.0, here.2)

pub call_alone-requires-clause-callable : goal.call_alone-requires-clause-callable
call_alone-requires-clause-callable c =
    let P = c.args.original.now in
    at_index (IsCallable P) c.args.initialisers.now c.loop-number.number-index 0 c.requires.callable c.loop-number-test.true

pub returns-then-not-is_return-clause-cause : goal.returns-then-not-is_return-clause-cause
returns-then-not-is_return-clause-cause c =
    let P = c.args.original.now in
    let z = c.args.limits.size in
    let b = c.args.limits.budget in
    let ns = c.args.initialisers.now in
    let i : ℕ = c.loop-number.number-index in
    let m = slice_index_or ns i 0 in
    let split : take i ns ++ (m ∷ drop (suc i) ns) ≡ ns = ap (λ (l : List ℕ). take i ns ++ l) (sym (drop-cons ns i 0 c.loop-number-test.true)) ∙ take-append-drop i ns in
    let Failing : List ℕ → Type 0 = λ ms. (σ : State) → Holds P z c.args.memory σ → Fails P z b σ ms m c.in_ok-answer.answer in
    subst Failing split
    (fails_at P z b c.args.memory c.loop-number.memory c.in_ok-answer.left (take i ns) (drop (suc i) ns) m c.in_ok-answer.answer (sym c.if-not-is_return.ensures)
    c.loop-number.invariant.opens c.in_ok-answer.ensures.answers)

pub loop-number-preserved : goal.loop-number-preserved
loop-number-preserved c =
    let P = c.args.original.now in
    let z = c.args.limits.size in
    let b = c.args.limits.budget in
    let ns = c.args.initialisers.now in
    let i : ℕ = c.loop-number.number-index in
    let m = slice_index_or ns i 0 in
    let left = c.in_ok-answer.left in
    record {
      opens = subst (λ (ms : List ℕ). OpensTo P z b c.args.memory ms left) (sym (take_more ns i 0 c.loop-number-test.true))
          (opens_after P z b c.args.memory c.loop-number.memory left (take i ns) m c.in_ok-answer.answer (sym c.if-not-is_return.ensures) c.loop-number.invariant.opens
          c.in_ok-answer.ensures.answers);
      size = c.in_ok-answer.ensures.size ∙ c.loop-number.invariant.size;
    }

pub returns-clause-opens : goal.returns-clause-opens
returns-clause-opens c =
    let P = c.args.original.now in
    let all : take c.loop-number.number-index c.args.initialisers.now ≡ c.args.initialisers.now = take_all c.loop-number.number-index c.args.initialisers.now c.loop-number-test.false in
    subst (λ (ms : List ℕ). OpensTo P c.args.limits.size c.args.limits.budget c.args.memory ms c.loop-number.memory) all c.loop-number.invariant.opens

pub returns-clause-size : goal.returns-clause-size
returns-clause-size c = c.loop-number.invariant.size
