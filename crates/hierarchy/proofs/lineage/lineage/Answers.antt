use Rattle.std.proofs.Common.{◌≡◌, ℕ, suc, ◌+◌, ◌-◌, ◌++◌, ◌∷◌, [], List, length, sym, subst, ap, ◌∙◌, arith}
use Rattle.std.specs.Prelude.{option_map}
use Rattle.std.proofs.lemmas.List.{append-nil, append_assoc, map-append}
use Rattle.jmodel.specs.format.ClassFile.{ClassFile}
use Rattle.objects.specs.linking.Superclasses.{lineage}
use Rattle.hierarchy.proofs.InOrder.{seen}
use Rattle.hierarchy.proofs.Upward.{IsOnTheWay, starts, ends, goes_on, is_done}
use Rattle.hierarchy.proofs.lineage.lineage.Goals as goal

pub loop-step-init : goal.loop-step-init
loop-step-init c =
    let cs = c.args.places.now in
    let all : c.len-count.result - 0 ≡ length cs = omega (arith, c.len-count.ensures) in
    subst (λ (front : List ClassFile). IsOnTheWay (λ (above : List ClassFile). front ++ above) cs c.place_of-place.result (c.len-count.result - 0) (lineage cs c.args.name.now)) (ap seen (sym c.new-classes.ensures.items))
    (starts (λ (above : List ClassFile). above) cs c.place_of-place.result (c.len-count.result - 0) c.args.name.now c.place_of-place.ensures all)

pub loop-step-preserved : goal.loop-step-preserved
loop-step-preserved c =
    let cs = c.args.places.now in
    let front = seen c.loop-step.classes.items in
    let n : ℕ = c.len-count.result - (c.loop-step._step + 1) in
    let one_less : c.len-count.result - c.loop-step._step ≡ suc n = omega arith in
    let is = sym c.class_at.ensures ∙ ap (option_map (λ k. k.now)) c.in-Some.is in
    let pushed : seen c.push.new.self.items ≡ front ++ c.in-Some.class.now ∷ [] = ap seen c.in_ok-push.ensures.items ∙ map-append (λ k. k.now) c.loop-step.classes.items (c.in-Some.class ∷ []) in
    goes_on (λ (above : List ClassFile). front ++ above) cs c.loop-step.place n (c.len-count.result - c.loop-step._step) (lineage cs c.args.name.now) one_less c.loop-step.invariant
    (λ (above : List ClassFile). seen c.push.new.self.items ++ above) c.above-place.result c.in-Some.class.now is c.above-place.ensures
    (λ above. sym (append_assoc front (c.in-Some.class.now ∷ []) above) ∙ ap (λ (l : List ClassFile). l ++ above) (sym pushed))

pub returns-in_default : goal.returns-in_default
returns-in_default c =
    let cs = c.args.places.now in
    let front = seen c.loop-step.classes.items in
    let n : ℕ = c.len-count.result - (c.loop-step._step + 1) in
    let one_less : c.len-count.result - c.loop-step._step ≡ suc n = omega arith in
    let none = sym c.class_at.ensures ∙ ap (option_map (λ k. k.now)) c.in_default.is in
    sym (append-nil front) ∙ ends (λ (above : List ClassFile). front ++ above) cs c.loop-step.place n (c.len-count.result - c.loop-step._step) (lineage cs c.args.name.now) one_less c.loop-step.invariant none

pub returns : goal.returns
returns c =
    let front = seen c.loop-step.classes.items in
    let done : c.len-count.result - c.loop-step._step ≡ 0 = omega arith in
    sym (append-nil front) ∙ is_done (λ (above : List ClassFile). front ++ above) c.args.places.now c.loop-step.place (c.len-count.result - c.loop-step._step) _ done c.loop-step.invariant
