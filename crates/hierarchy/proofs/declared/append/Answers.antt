use Rattle.std.proofs.Common.{List, ◌++◌, ◌∷◌, [], map, take, append_assoc, sym, ap, ◌∙◌}
use Rattle.std.proofs.lemmas.List.{take_all}
use Rattle.jmodel.specs.format.ClassFile.{ClassFile, Member}
use Rattle.objects.specs.linking.Classes.{Declared, declared_in}
use Rattle.hierarchy.proofs.Each.{map_next}
use Rattle.hierarchy.proofs.declared.append.Goals as goal

pub loop-member-preserved : goal.loop-member-preserved
loop-member-preserved c =
    let declared : Member → Declared = λ m. record { class = c.args.class.now; member = m } in
    let members = c.deref-member-items.result.now in
    let i = c.loop-member.member-index in
    let member = c.member-item.result in
    let old = c.args.methods.now.items in
    c.in_ok-push.ensures.items ∙ ap (λ (l : List Declared). l ++ declared member ∷ []) c.loop-member.invariant ∙ append_assoc old (map declared (take i members)) (declared member ∷ [])
    ∙ ap (λ (l : List Declared). old ++ l) (sym (map_next declared members i member c.loop-member-test.true c.member-item.is))

pub returns : goal.returns
returns c =
    let class = c.args.class.now in
    let all = take_all c.loop-member.member-index c.deref-member-items.result.now c.loop-member-test.false ∙ c.deref-member-items.ensures.value ∙ ap (λ (k : ClassFile). k.methods) c.class.view_is in
    c.loop-member.invariant ∙ ap (λ (l : List Member). c.args.methods.now.items ++ declared_in class l) all
