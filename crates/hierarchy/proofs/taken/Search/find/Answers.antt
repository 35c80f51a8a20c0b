use Rattle.std.proofs.Common.{◌≡◌, [], ◌++◌, map, Bool, true, false, if◌then◌else◌, Bor, sym, ap, ◌∙◌, subst}
use Rattle.std.proofs.lemmas.List.{append-nil}
use Rattle.std.proofs.lemmas.Result.{on_ok_weaker}
use Rattle.jmodel.specs.declared.name.MethodName.{MethodName}
use Rattle.objects.specs.linking.Classes.{Declared}
use Rattle.objects.specs.linking.Taken.{is_taken_by}
use Rattle.hierarchy.specs.Names.{named, has, group_of}
use Rattle.hierarchy.specs.Search.{call_key, State, VisitsOf}
use Rattle.hierarchy.proofs.Bools.{is_true, is_false}
use Rattle.hierarchy.proofs.SearchLaws.{finds_call}
use Rattle.hierarchy.proofs.taken.Search.find.Goals as goal

pub returns-then-branch : goal.returns-then-branch
returns-then-branch c =
    let k : MethodName = named c.class_for-class.result.now c.call.inside.name.now c.call.inside.descriptor.now in
    let is : k ≡ call_key c.args.call.now = ap (λ class. named class c.call.inside.name.now c.call.inside.descriptor.now) c.class_for-class.ensures ∙ ap call_key c.call.view_is in
    let old : State = record { called = c.self.inside.called; queue = map (λ (m : Bor Declared). m.now) c.self.inside.queue.items } in
    let new : State = record { called = c.insert.new.self; queue = map (λ (m : Bor Declared). m.now) c.append_to.new.list.items } in
    let fresh : has c.self.inside.called k ≡ false = is_false (has c.self.inside.called k) (sym c.in_ok-insert.ensures.is_new ∙ c.if-branch.true) in
    let unseen = ap (λ (b : Bool). old.queue ++ (if b then [] else group_of c.args.groups.now k)) (sym fresh) in
    on_ok_weaker c.append_to.result
    (λ queue. subst (λ (s : State). VisitsOf c.args.groups.now (is_taken_by c.args.call.now) s new) c.self.view_is
    (finds_call c.args.groups.now c.args.call.now k is old new c.in_ok-insert.ensures.added (queue ∙ unseen)))
    c.append_to.ensures

pub returns-else-branch : goal.returns-else-branch
returns-else-branch c =
    let k : MethodName = named c.class_for-class.result.now c.call.inside.name.now c.call.inside.descriptor.now in
    let is : k ≡ call_key c.args.call.now = ap (λ class. named class c.call.inside.name.now c.call.inside.descriptor.now) c.class_for-class.ensures ∙ ap call_key c.call.view_is in
    let old : State = record { called = c.self.inside.called; queue = map (λ (m : Bor Declared). m.now) c.self.inside.queue.items } in
    let new : State = record { called = c.insert.new.self; queue = map (λ (m : Bor Declared). m.now) c.self.inside.queue.items } in
    let known : has c.self.inside.called k ≡ true = is_true (has c.self.inside.called k) (sym c.in_ok-insert.ensures.is_new ∙ c.if-branch.false) in
    let queue = sym (append-nil old.queue) ∙ ap (λ (b : Bool). old.queue ++ (if b then [] else group_of c.args.groups.now k)) (sym known) in
    subst (λ (s : State). VisitsOf c.args.groups.now (is_taken_by c.args.call.now) s new) c.self.view_is (finds_call c.args.groups.now c.args.call.now k is old new c.in_ok-insert.ensures.added queue)
