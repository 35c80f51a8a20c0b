use Rattle.std.proofs.Common.{◌≡◌, List, ◌++◌, reverse, Bor, sym, ap, ◌∙◌}
use Rattle.std.specs.List.{flat_map}
use Rattle.std.proofs.lemmas.List.{take_all, map-append}
use Rattle.std.proofs.lemmas.List.Folds.{flat_map-map}
use Rattle.jmodel.specs.format.ClassFile.{ClassFile}
use Rattle.objects.specs.linking.Members.{own_name}
use Rattle.objects.specs.linking.Superclasses.{lineage}
use Rattle.hierarchy.proofs.Each.{flat_map_next, reverse_seen}
use Rattle.hierarchy.proofs.InOrder.{seen}
use Rattle.hierarchy.proofs.starting.visits.Goals as goal

pub loop-class-preserved : goal.loop-class-preserved
loop-class-preserved c =
    let classes = c.args.classes.now in
    let cs = seen classes in
    let i = c.loop-class.class-index in
    let front = seen c.loop-class.visited.items in
    let visit = λ (k : Bor ClassFile). reverse (lineage cs (own_name k.now)) in
    let above : seen c.in_ok-above.above.items ≡ lineage cs (own_name c.class-item.result.now) =
    c.in_ok-above.ensures ∙ ap (λ (l : List ClassFile). lineage l c.own_name.result.now) c.in_ok-places.ensures ∙ ap (lineage cs) c.own_name.ensures in
    ap seen c.in_ok-append.ensures.items ∙ map-append (λ (k : Bor ClassFile). k.now) c.loop-class.visited.items c.reverse.new.self.items
    ∙ ap (λ (l : List ClassFile). front ++ l) (ap seen c.reverse.ensures.items ∙ reverse_seen (λ (k : Bor ClassFile). k.now) c.in_ok-above.above.items ∙ ap (λ (l : List ClassFile). reverse l) above)
    ∙ ap (λ (l : List ClassFile). l ++ visit c.class-item.result) c.loop-class.invariant
    ∙ sym (flat_map_next visit classes i c.class-item.result c.loop-class-test.true c.class-item.is)

pub returns : goal.returns
returns c =
    let classes = c.args.classes.now in
    let visit = λ (k : ClassFile). reverse (lineage (seen classes) (own_name k)) in
    c.loop-class.invariant ∙ ap (λ (l : List (Bor ClassFile)). flat_map (λ (k : Bor ClassFile). visit k.now) l) (take_all c.loop-class.class-index classes c.loop-class-test.false)
    ∙ sym (flat_map-map visit (λ (k : Bor ClassFile). k.now) classes)
