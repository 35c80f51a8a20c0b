use Rattle.std.proofs.Common.{◌≡◌, ℕ, List, Bool, true, false, IfOk, sym, ap, subst, ◌∙◌}
use Rattle.verifier.specs.Check.{covers_each, keeps_flow, stays}
use Rattle.verifier.specs.Search.{caught, each_to}
use Rattle.verifier.proofs.Checks.{goes_nowhere, falls_before, is_after}
use Rattle.verifier.proofs.checking.keeps_flow.Goals as goal

pub returns-then-not-covers_ways : goal.returns-then-not-covers_ways
returns-then-not-covers_ways c =
    let P = c.args.site.now.program.now in
    let k = c.args.site.now.method.now in
    let pc = c.args.site.now.pc in
    let T = c.args.typing.now in
    let h = c.args.entry.now in
    let tos = c.led.inside.to.items in
    let x = c.led.inside.left in
    let is = ap (keeps_flow P k T pc h) c.led.view_is in
    let s : stays P k pc x ≡ true = sym c.in_ok-stays.ensures ∙ c.if-not-branch.false in
    let g : covers_each P k T (each_to tos x) ≡ false = ap (λ (l : List ℕ). covers_each P k T (each_to l x)) (sym c.as_slice.ensures.value) ∙ sym c.covers_ways.ensures ∙ c.if-not-covers_ways.true in
    goes_nowhere P k T pc h x tos s g ∙ is

pub returns-then-not-branch-2 : goal.returns-then-not-branch-2
returns-then-not-branch-2 c =
    let P = c.args.site.now.program.now in
    let k = c.args.site.now.method.now in
    let pc = c.args.site.now.pc in
    let T = c.args.typing.now in
    let h = c.args.entry.now in
    let tos = c.led.inside.to.items in
    let x = c.led.inside.left in
    let is = ap (keeps_flow P k T pc h) c.led.view_is in
    let s : stays P k pc x ≡ true = sym c.in_ok-stays.ensures ∙ c.if-not-branch.false in
    let g : covers_each P k T (each_to tos x) ≡ true = ap (λ (l : List ℕ). covers_each P k T (each_to l x)) (sym c.as_slice.ensures.value) ∙ sym c.covers_ways.ensures ∙ c.if-not-covers_ways.false in
    let b : covers_each P k T (caught P k.catches pc h.locals h.built) ≡ false = sym c.in_ok-covers_caught.ensures ∙ c.if-not-branch-2.true in
    falls_before P k T pc h x tos s g b ∙ is

pub returns : goal.returns
returns c =
    let P = c.args.site.now.program.now in
    let k = c.args.site.now.method.now in
    let pc = c.args.site.now.pc in
    let T = c.args.typing.now in
    let h = c.args.entry.now in
    let tos = c.led.inside.to.items in
    let x = c.led.inside.left in
    let is = ap (keeps_flow P k T pc h) c.led.view_is in
    let s : stays P k pc x ≡ true = sym c.in_ok-stays.ensures ∙ c.if-not-branch.false in
    let g : covers_each P k T (each_to tos x) ≡ true = ap (λ (l : List ℕ). covers_each P k T (each_to l x)) (sym c.as_slice.ensures.value) ∙ sym c.covers_ways.ensures ∙ c.if-not-covers_ways.false in
    let b : covers_each P k T (caught P k.catches pc h.locals h.built) ≡ true = sym c.in_ok-covers_caught.ensures ∙ c.if-not-branch-2.false in
    subst (λ (z : Bool). IfOk c.covers_caught-2.result (λ b. b ≡ z)) (sym (is_after P k T pc h x tos s g b) ∙ is) c.covers_caught-2.ensures
