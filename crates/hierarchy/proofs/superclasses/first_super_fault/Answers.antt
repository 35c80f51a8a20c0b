use Rattle.std.proofs.Common.{List, drop, ◌+◌, Bor, sym, ap, ◌∙◌}
use Rattle.std.proofs.lemmas.List.{drop_all}
use Rattle.jmodel.specs.format.ClassFile.{ClassFile}
use Rattle.objects.specs.linking.Faults.{first_fault}
use Rattle.objects.specs.linking.ClassesFaults.{super_fault}
use Rattle.hierarchy.proofs.Each.{item_is}
use Rattle.hierarchy.proofs.FirstFault.{found}
use Rattle.hierarchy.proofs.InOrder.{seen}
use Rattle.hierarchy.proofs.superclasses.first_super_fault.Goals as goal

pub returns-in-Some : goal.returns-in-Some
returns-in-Some c =
    let cs = c.args.places.now in
    let classes = c.classes-class-items.result.now in
    let at = c.loop-class.class-index in
    let item = ap seen (item_is classes at c.class-item.result c.loop-class-test.true c.class-item.is) in
    found (super_fault cs) (seen (drop at classes)) c.class-item.result.now (seen (drop (at + 1) classes)) c.in-Some.fault _ item (sym c.in_ok-fault.ensures ∙ c.in-Some.is) c.loop-class.invariant
    ∙ ap (first_fault (super_fault cs)) c.classes-class-items.ensures

pub returns : goal.returns
returns c =
    let cs = c.args.places.now in
    let classes = c.classes-class-items.result.now in
    ap (λ (l : List (Bor ClassFile)). first_fault (super_fault cs) (seen l)) (sym (drop_all c.loop-class.class-index classes c.loop-class-test.false)) ∙ c.loop-class.invariant
    ∙ ap (first_fault (super_fault cs)) c.classes-class-items.ensures
