use Rattle.std.proofs.Common.{◌≡◌, List, [], ◌∷◌, ◌++◌, if◌then◌else◌, sym, ap, ◌∙◌}
use Rattle.std.proofs.lemmas.Result.{IfOk-weaker}
use Rattle.jmodel.specs.declared.name.MethodName.{MethodName}
use Rattle.jmodel.specs.format.Pool.{MemberName}
use Rattle.objects.specs.linking.Members.{is_name}
use Rattle.objects.specs.linking.Classes.{Declared}
use Rattle.hierarchy.specs.Names.{named, group_of}
use Rattle.hierarchy.specs.Search.{IsGrouped}
use Rattle.hierarchy.proofs.SearchLaws.{grouped_root, grouped_more}
use Rattle.hierarchy.proofs.taken.group.Goals as goal

pub returns-then-is_root : goal.returns-then-is_root
returns-then-is_root c = λ ms grouped. grouped_root ms c.args.method.now c.args.groups.now (sym c.is_root.ensures ∙ c.if-is_root.true) grouped

pub returns : goal.returns
returns c =
    let m = c.args.method.now in
    let old = c.args.groups.now in
    let key_is = ap (λ (r : MemberName). named r.class r.name r.descriptor) c.key.view_is ∙ c.method_key-key.ensures in
    let other = sym c.is_root.ensures ∙ c.if-is_root.false in
    IfOk-weaker c.push.result (λ _. (q : MethodName) → group_of c.push.new.self q ≡ group_of old q ++ (if is_name q (named c.key.inside.class.now c.key.inside.name.now c.key.inside.descriptor.now) then m ∷ [] else []))
    (λ _. (ms : List Declared) → IsGrouped ms old → IsGrouped (ms ++ m ∷ []) c.push.new.self)
    (λ _ put ms grouped. grouped_more ms m old c.push.new.self other (λ q. put q ∙ ap (λ (k : MethodName). group_of old q ++ (if is_name q k then m ∷ [] else [])) key_is) grouped) c.push.ensures
