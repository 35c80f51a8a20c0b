use Rattle.std.proofs.Common.{◌≡◌, Bool, true, false, List, [], ◌∷◌, ◌++◌, map, take, cond, get_or, Bor, sym, ap, ◌∙◌}
use Rattle.std.specs.Prelude.{filter}
use Rattle.std.proofs.lemmas.List.{append-nil, take_all, get_or-map}
use Rattle.std.proofs.lemmas.List.Elements.{filter_more}
use Rattle.objects.specs.linking.Classes.{Declared}
use Rattle.hierarchy.proofs.Each.{seen_next}
use Rattle.hierarchy.proofs.taken.taken_among.Goals as goal
use Rattle.hierarchy.proofs.taken.taken_among.Goals.{then-taken-i+in_ok-push, else-taken-i}

pub loop-i-preserved : goal.loop-i-preserved
loop-i-preserved c = λ p flags.
    let methods = c.args.methods.now in
    let method = c.index-methods-i.result in
    let so_far = c.loop-i.invariant p flags in
    let more = filter_more p methods c.loop-i.i method c.loop-i-test.true in
    let flag : get_or c.args.taken.now c.loop-i.i false ≡ p (get_or methods c.loop-i.i method) = ap (λ (bs : List Bool). get_or bs c.loop-i.i false) flags ∙ get_or-map p methods c.loop-i.i method false c.loop-i-test.true in
    let view = λ (ms : List (Bor Declared)). map (λ (m : Bor Declared). m.now) ms in
    elim c.if-taken-i.branch [
      | then-taken-i+in_ok-push w ↦ (
          let chosen : p (get_or methods c.loop-i.i method) ≡ true = sym flag ∙ w.if-taken-i.true in
          ap (λ v. view v.items) w.chosen-is ∙ seen_next _ _ _ w.in_ok-push.ensures.items ∙ ap (λ (ms : List Declared). ms ++ method ∷ []) so_far
          ∙ ap (λ (m : Declared). filter p (take c.loop-i.i methods) ++ m ∷ []) c.index-methods-i.is
          ∙ sym (more ∙ ap (λ (b : Bool). filter p (take c.loop-i.i methods) ++ cond b (get_or methods c.loop-i.i method ∷ []) []) chosen))
      | else-taken-i w ↦ (
          let left : p (get_or methods c.loop-i.i method) ≡ false = sym flag ∙ w.if-taken-i.false in
          ap (λ v. view v.items) w.chosen-is ∙ so_far ∙ sym (more ∙ ap (λ (b : Bool). filter p (take c.loop-i.i methods) ++ cond b (get_or methods c.loop-i.i method ∷ []) []) left ∙ append-nil (filter p (take c.loop-i.i methods))))
    ]

pub returns : goal.returns
returns c = λ p flags. c.loop-i.invariant p flags ∙ ap (filter p) (take_all c.loop-i.i c.args.methods.now c.loop-i-test.false)
