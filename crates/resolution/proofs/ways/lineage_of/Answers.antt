use Rattle.std.proofs.Common.{◌≡◌, ℕ, suc, ◌+◌, ◌-◌, ◌++◌, ◌∷◌, [], List, length, Option, Some, sym, subst, ap, ◌∙◌, arith}
use Rattle.std.specs.Prelude.{slice_get, option_and_then}
use Rattle.std.proofs.lemmas.List.{append-nil, append_assoc}
use Rattle.std.proofs.lemmas.Grind.{flat_map-append}
use Rattle.jmodel.specs.format.ClassFile.{ClassFile}
use Rattle.objects.specs.linking.Superclasses.{lineage}
use Rattle.hierarchy.specs.Places.{place_above}
use Rattle.resolution.specs.Ways.{classes_at, some_class}
use Rattle.resolution.proofs.Climbing.{class_there}
use Rattle.hierarchy.proofs.Upward.{IsOnTheWay, starts, ends, goes_on, is_done}
use Rattle.resolution.proofs.ways.lineage_of.Goals as goal

pub loop-step-init : goal.loop-step-init
loop-step-init c =
    let cs = c.args.places.now in
    let all : c.len-count.result - 0 ≡ length cs = omega (arith, c.len-count.ensures) in
    subst (λ (front : List ℕ). IsOnTheWay (λ (above : List ClassFile). classes_at cs front ++ above) cs c.place_of-place.result (c.len-count.result - 0) (lineage cs c.args.name.now)) (sym c.new-list.ensures.items)
    (starts (λ (above : List ClassFile). above) cs c.place_of-place.result (c.len-count.result - 0) c.args.name.now c.place_of-place.ensures all)

pub loop-step-preserved : goal.loop-step-preserved
loop-step-preserved c =
    let cs = c.args.places.now in
    let list = c.loop-step.list.items in
    let front = classes_at cs list in
    let n : ℕ = c.len-count.result - (c.loop-step._step + 1) in
    let one_less : c.len-count.result - c.loop-step._step ≡ suc n = omega arith in
    let there = class_there cs c.loop-step.invariant.name c.in-Some.at (sym c.loop-step.invariant.at ∙ c.in-Some.is) in
    let is : option_and_then (slice_get cs) c.loop-step.place ≡ Some there.0 = ap (option_and_then (slice_get cs)) c.in-Some.is ∙ there.1 in
    let more : classes_at cs c.push.new.self.items ≡ front ++ there.0 ∷ [] =
    ap (classes_at cs) c.in_ok-push.ensures.items ∙ flat_map-append (λ (p : ℕ). some_class (slice_get cs p)) list (c.in-Some.at ∷ [])
    ∙ ap (λ (o : Option ClassFile). front ++ (some_class o ++ [])) there.1 in
    goes_on (λ (above : List ClassFile). front ++ above) cs c.loop-step.place n (c.len-count.result - c.loop-step._step) (lineage cs c.args.name.now) one_less c.loop-step.invariant
    (λ (above : List ClassFile). classes_at cs c.push.new.self.items ++ above) c.above-place.result there.0 is (c.above-place.ensures ∙ sym (ap (option_and_then (place_above cs)) c.in-Some.is))
    (λ above. sym (append_assoc front (there.0 ∷ []) above) ∙ ap (λ (l : List ClassFile). l ++ above) (sym more))

pub returns-in_default : goal.returns-in_default
returns-in_default c =
    let cs = c.args.places.now in
    let front = classes_at cs c.loop-step.list.items in
    let n : ℕ = c.len-count.result - (c.loop-step._step + 1) in
    let one_less : c.len-count.result - c.loop-step._step ≡ suc n = omega arith in
    let none = ap (option_and_then (slice_get cs)) c.in_default.is in
    sym (append-nil front) ∙ ends (λ (above : List ClassFile). front ++ above) cs c.loop-step.place n (c.len-count.result - c.loop-step._step) (lineage cs c.args.name.now) one_less c.loop-step.invariant none

pub returns : goal.returns
returns c =
    let cs = c.args.places.now in
    let front = classes_at cs c.loop-step.list.items in
    let done : c.len-count.result - c.loop-step._step ≡ 0 = omega arith in
    sym (append-nil front) ∙ is_done (λ (above : List ClassFile). front ++ above) cs c.loop-step.place (c.len-count.result - c.loop-step._step) _ done c.loop-step.invariant
