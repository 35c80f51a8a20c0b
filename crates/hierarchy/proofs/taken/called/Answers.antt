use Rattle.std.proofs.Common.{List, sym, subst, ap, ◌∙◌, arith, length}
use Rattle.std.proofs.lemmas.List.{length-append}
use Rattle.jmodel.specs.declared.name.MethodName.{MethodName}
use Rattle.objects.specs.linking.Classes.{Declared}
use Rattle.hierarchy.specs.Search.{State, IsGrouped, Finds, starting, uncalled}
use Rattle.hierarchy.proofs.SearchLaws.{starts, goes_on, is_done, IsUnderWay}
use Rattle.hierarchy.proofs.taken.called.Goals as goal

pub loop-method-init : goal.loop-method-init
loop-method-init c = λ cs are. subst (IsUnderWay cs) (sym (c.in_ok-search.ensures ∙ ap starting are)) (starts cs)

pub loop-method-preserved : goal.loop-method-preserved
loop-method-preserved c = λ cs are.
    let grouped = subst (λ (ms : List Declared). IsGrouped ms c.in_ok-groups.groups) are c.in_ok-groups.ensures in
    goes_on cs c.loop-method.search c.next.new.self c.visit.new.self c.in-Some.method.now c.in-Some.ensures.called c.in-Some.ensures.queue (c.in_ok-visit.ensures _ grouped) (c.loop-method.invariant cs are)

pub loop-method-smaller : goal.loop-method-smaller
loop-method-smaller c =
    let visits = c.in_ok-visit.ensures c.args.methods.now c.in_ok-groups.ensures in
    omega (arith, visits.less, ap (λ (ms : List Declared). length ms) c.in-Some.ensures.queue, length-append {A = Declared}, ap (λ (called : List MethodName). uncalled c.args.methods.now called) c.in-Some.ensures.called)

pub returns : goal.returns
returns c = λ cs are. let called = sym c.in_default.ensures.called ∙ sym c.into_called.ensures in subst (Finds cs) called (is_done cs c.loop-method.search c.in_default.ensures.queue (c.loop-method.invariant cs are))
