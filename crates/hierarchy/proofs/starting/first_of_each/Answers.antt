use Rattle.std.proofs.Common.{◌≡◌, ℕ, ◌||◌, List, [], ◌∷◌, drop, ◌+◌, Bor, sym, subst, ap, ◌∙◌}
use Rattle.std.proofs.lemmas.List.{drop_all, map-append}
use Rattle.jmodel.specs.declared.name.MethodName.{MethodName}
use Rattle.jmodel.specs.format.ClassFile.{ClassFile}
use Rattle.objects.specs.linking.Classes.{unseen}
use Rattle.objects.specs.linking.Members.{is_name}
use Rattle.hierarchy.specs.Names.{named, has}
use Rattle.hierarchy.specs.Places.{class_key}
use Rattle.hierarchy.proofs.Bools.{is_true, is_false}
use Rattle.hierarchy.proofs.Each.{item_is}
use Rattle.hierarchy.proofs.InOrder.{seen}
use Rattle.hierarchy.proofs.Visits.{AreVisited, starts, is_done, new_one, old_one}
use Rattle.hierarchy.proofs.starting.first_of_each.Goals as goal
use Rattle.hierarchy.proofs.starting.first_of_each.Goals.{then-branch+in_ok-push, else-branch}

pub loop-class-init : goal.loop-class-init
loop-class-init c =
    let cs = seen c.args.classes.now in
    subst (λ (l : List (Bor ClassFile)). AreVisited c.new-names.result (seen l) cs (unseen [] cs)) (sym c.new-firsts.ensures.items) (starts c.new-names.result cs c.new-names.ensures)

pub loop-class-preserved : goal.loop-class-preserved
loop-class-preserved c =
    let classes = c.args.classes.now in
    let at = c.loop-class.class-index in
    let class = c.class-item.result.now in
    let set = c.loop-class.names in
    let more = c.insert.new.self in
    let firsts = seen c.loop-class.firsts.items in
    let rest = seen (drop (at + 1) classes) in
    let whole = unseen [] (seen classes) in
    let key : named c.own_name.result.now [] [] ≡ class_key class = ap (λ (n : List ℕ). named n [] []) c.own_name.ensures in
    let item = ap seen (item_is classes at c.class-item.result c.loop-class-test.true c.class-item.is) in
    let before = subst (λ (l : List ClassFile). AreVisited set firsts l whole) item c.loop-class.invariant in
    let put = λ (q : MethodName). c.in_ok-insert.ensures.added q ∙ ap (λ (k : MethodName). has set q || is_name q k) key in
    elim c.if-branch.branch [
      | then-branch+in_ok-push w ↦ (
          let new = ap (has set) (sym key) ∙ is_false (has set (named c.own_name.result.now [] [])) (sym c.in_ok-insert.ensures.is_new ∙ w.if-branch.true) in
          let pushed = ap (λ v. seen v.items) w.firsts-is ∙ ap seen w.in_ok-push.ensures.items ∙ map-append (λ (k : Bor ClassFile). k.now) c.loop-class.firsts.items (c.class-item.result ∷ []) in
          subst (λ (l : List ClassFile). AreVisited more l rest whole) (sym pushed) (new_one set more firsts class rest whole before put new))
      | else-branch w ↦ (
          let old = ap (has set) (sym key) ∙ is_true (has set (named c.own_name.result.now [] [])) (sym c.in_ok-insert.ensures.is_new ∙ w.if-branch.false) in
          subst (λ (l : List ClassFile). AreVisited more l rest whole) (sym (ap (λ v. seen v.items) w.firsts-is)) (old_one set more firsts class rest whole before put old))
    ]

pub returns : goal.returns
returns c =
    let classes = c.args.classes.now in
    let none = ap seen (drop_all c.loop-class.class-index classes c.loop-class-test.false) in
    is_done c.loop-class.names (seen c.loop-class.firsts.items) (unseen [] (seen classes)) (subst (λ (l : List ClassFile). AreVisited c.loop-class.names (seen c.loop-class.firsts.items) l (unseen [] (seen classes))) none c.loop-class.invariant)
