use Rattle.std.proofs.Common.{◌≡◌, ◌++◌, List, map, replicate, ◌∙◌, ap, sym, subst, IfOk}
use Rattle.jmodel.specs.declared.typing.VType.{VType}
use Rattle.objects.specs.typing.Typing.{become}
use Rattle.verifier.proofs.Copies.{none_become, parts_become, run_becomes}
use Rattle.verifier.proofs.building.+replaced_list.Goals as goal

pub returns-then-not-has_copy : goal.returns-then-not-has_copy
returns-then-not-has_copy t c =
    let none = none_become c.args.object.now c.args.by.now c.args.from.now (sym c.has_copy.ensures ∙ c.if-not-has_copy.true) in
    subst (λ (ts : List VType). IfOk c.share.result (λ l. l ≡ ts)) (sym none) c.share.ensures

pub returns-in_ok-share-in-Run : goal.returns-in_ok-share-in-Run
returns-in_ok-share-in-Run t c =
    let run = run_becomes c.args.object.now c.args.by.now c.len.result c.args.from.now c.in-Run.field-0.now c.in-Run.ensures.0 c.in-Run.ensures.1 (sym c.has_copy.ensures ∙ c.if-not-has_copy.false) c.len.ensures in
    c.run.ensures ∙ ap (λ t. replicate c.len.result t) c.in_ok-share-in-Run.ensures ∙ run

pub returns-in_ok-right-in-Fork : goal.returns-in_ok-right-in-Fork
returns-in_ok-right-in-Fork t c =
    let all = map (become c.args.object.now c.args.by.now) in
    let l = c.in_ok-left-in-Fork in
    let r = c.in_ok-right-in-Fork in
    let is : l.left ++ r.right ≡ all c.args.from.now =
    ap (λ ts. ts ++ r.right) l.ensures ∙ ap (λ ts. all c.in-Fork.left.now ++ ts) r.ensures ∙ parts_become c.args.object.now c.args.by.now c.args.from.now c.in-Fork.left.now c.in-Fork.right.now c.in-Fork.ensures.0 in
    subst (λ (ts : List VType). IfOk c.pair.result (λ l. l ≡ ts)) is c.pair.ensures
