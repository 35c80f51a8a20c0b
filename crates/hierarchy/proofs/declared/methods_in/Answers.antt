use Rattle.std.proofs.Common.{List, ◌++◌, ◌+◌, map, take, Bor, sym, ap, ◌∙◌}
use Rattle.std.proofs.lemmas.List.{take_all}
use Rattle.std.proofs.lemmas.List.Folds.{flat_map-map}
use Rattle.jmodel.specs.format.ClassFile.{ClassFile}
use Rattle.objects.specs.linking.Classes.{Declared, declared_in, methods_in}
use Rattle.hierarchy.proofs.Each.{flat_map_next}
use Rattle.hierarchy.proofs.InOrder.{seen}
use Rattle.hierarchy.proofs.declared.methods_in.Goals as goal

pub loop-class-preserved : goal.loop-class-preserved
loop-class-preserved c =
    let classes = c.args.classes.now in
    let i = c.loop-class.class-index in
    let class = c.class-item.result in
    let visit = λ (k : ClassFile). declared_in k k.methods in
    let now = λ (k : Bor ClassFile). k.now in
    c.in_ok-append.ensures ∙ ap (λ (l : List Declared). l ++ visit class.now) (c.loop-class.invariant ∙ flat_map-map visit now (take i classes))
    ∙ sym (flat_map_next (λ (k : Bor ClassFile). visit k.now) classes i class c.loop-class-test.true c.class-item.is) ∙ sym (flat_map-map visit now (take (i + 1) classes))

pub returns : goal.returns
returns c = c.loop-class.invariant ∙ ap (λ (l : List (Bor ClassFile)). methods_in (seen l)) (take_all c.loop-class.class-index c.args.classes.now c.loop-class-test.false)
