use Rattle.std.proofs.Common.{◌≡◌, ℕ, ◌+◌, ◌&&◌, List, length, Bor, sym, subst, ap, ◌∙◌, arith}
use Rattle.std.specs.Prelude.{position}
use Rattle.std.proofs.lemmas.List.{length-map}
use Rattle.jmodel.specs.declared.name.MethodName.{MethodName}
use Rattle.jmodel.specs.format.ClassFile.{Member, ClassFile}
use Rattle.objects.specs.linking.Members.{is_member}
use Rattle.resolution.specs.Resolving.{HasFirst, may_run}
use Rattle.hierarchy.proofs.InOrder.{seen}
use Rattle.resolution.proofs.Resolved.{AreUpTo, firsts_more, all_firsts}
use Rattle.resolution.proofs.Tables.{seen_there}
use Rattle.resolution.proofs.resolution.selected_of_classes.Goals as goal

pub loop-class-preserved : goal.loop-class-preserved
loop-class-preserved c =
    let classes = c.args.classes.now in
    let i : ℕ = c.loop-class.class-index in
    let class = c.class-item.result.now in
    let numbers = c.in_ok-numbers_of_selected.field-0 in
    let has : HasFirst may_run class.pool class.methods numbers = λ n.
    c.in_ok-numbers_of_selected.ensures n ∙ ap (position (λ (m : Member). is_member c.class.inside.now.pool n.name n.descriptor m && may_run m)) c.as_slice.ensures.value
    ∙ ap (λ (k : Bor ClassFile). position (λ (m : Member). is_member k.now.pool n.name n.descriptor m && may_run m) k.now.methods) c.class.view_is in
    subst (λ (t : List (List (MethodName × ℕ))). AreUpTo may_run (λ k. k.methods) (seen classes) (i + 1) t) (sym c.in_ok-push.ensures.items)
    (firsts_more may_run (λ k. k.methods) (seen classes) i class c.loop-class.table.items numbers (seen_there classes i c.class-item.result c.loop-class-test.true c.class-item.is) has c.loop-class.invariant)

pub returns : goal.returns
returns c =
    let classes = c.args.classes.now in
    let many : length (seen classes) ≡ length classes = length-map _ _ in
    all_firsts may_run (λ k. k.methods) (seen classes) c.loop-class.class-index c.loop-class.table.items (let past = c.loop-class-test.false in omega (arith, many, past)) c.loop-class.invariant
