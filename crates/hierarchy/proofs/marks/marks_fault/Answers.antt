use Rattle.std.proofs.Common.{◌≡◌, Some, drop, ◌+◌, sym, ap, ◌∙◌}
use Rattle.objects.specs.linking.Faults.{mark_fault}
use Rattle.objects.specs.linking.Classes.{Declared}
use Rattle.hierarchy.proofs.Each.{item_is}
use Rattle.hierarchy.proofs.FirstFault.{found}
use Rattle.hierarchy.proofs.marks.marks_fault.Goals as goal

pub returns-in-Some : goal.returns-in-Some
returns-in-Some c =
    let methods = c.args.methods.now in
    let at = c.loop-method.method-index in
    let method = c.method-item.result in
    let item = item_is methods at method c.loop-method-test.true c.method-item.is in
    let is : mark_fault method.class method.member ≡ Some c.in-Some.fault = sym (ap (λ (k : Declared). mark_fault k.class k.member) c.method.view_is) ∙ sym c.in_ok-fault.ensures ∙ c.in-Some.is in
    found (λ (k : Declared). mark_fault k.class k.member) (drop at methods) method (drop (at + 1) methods) c.in-Some.fault _ item is c.loop-method.invariant
