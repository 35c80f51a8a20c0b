use Rattle.std.proofs.Common.{◌≡◌, Bool, true, false, List, [], ◌∷◌, ◌++◌, take, cond, sym, ap, ◌∙◌}
use Rattle.std.specs.Prelude.{filter, map}
use Rattle.std.proofs.lemmas.List.{append-nil}
use Rattle.objects.specs.linking.Classes.{Declared}
use Rattle.hierarchy.specs.Search.{is_root_of}
use Rattle.hierarchy.proofs.Each.{filter_next, seen_next}
use Rattle.hierarchy.proofs.taken.Search.start.Goals as goal
use Rattle.hierarchy.proofs.taken.Search.start.Goals.{then-is_root+in_ok-push, else-is_root}

pub loop-method-preserved : goal.loop-method-preserved
loop-method-preserved c =
    let methods = c.args.methods.now in
    let i = c.loop-method.method-index in
    let method = c.method-item.result in
    let roots = filter is_root_of (take i methods) in
    let next = filter_next is_root_of methods i method c.loop-method-test.true c.method-item.is in
    elim c.if-is_root.branch [
      | then-is_root+in_ok-push w ↦ (
          let root : is_root_of method ≡ true = sym c.is_root.ensures ∙ w.if-is_root.true in
          ap (λ v. map (λ m. m.now) v.items) w.queue-is ∙ seen_next _ _ _ w.in_ok-push.ensures.items ∙ ap (λ (l : List Declared). l ++ method ∷ []) c.loop-method.invariant
          ∙ sym (next ∙ ap (λ (b : Bool). roots ++ cond b (method ∷ []) []) root))
      | else-is_root w ↦ (
          let left : is_root_of method ≡ false = sym c.is_root.ensures ∙ w.if-is_root.false in
          ap (λ v. map (λ m. m.now) v.items) w.queue-is ∙ c.loop-method.invariant ∙ sym (next ∙ ap (λ (b : Bool). roots ++ cond b (method ∷ []) []) left ∙ append-nil roots))
    ]
