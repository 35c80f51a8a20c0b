use Rattle.std.proofs.Common.{◌≡◌, List, ◌++◌, reverse, Bor, sym, ap, ◌∙◌}
use Rattle.std.specs.List.{flat_map}
use Rattle.std.proofs.lemmas.List.{take_all}
use Rattle.std.proofs.lemmas.List.Folds.{flat_map-map}
use Rattle.jmodel.specs.format.ClassFile.{ClassFile}
use Rattle.objects.specs.linking.Superclasses.{lineage}
use Rattle.objects.specs.semantics.Program.{Declared}
use Rattle.objects.specs.linking.Layout.{own_words}
use Rattle.hierarchy.proofs.Each.{flat_map_next, reverse_seen}
use Rattle.hierarchy.proofs.InOrder.{seen}
use Rattle.heap_layout.proofs.words.words_upward.Goals as goal

pub loop-class-preserved : goal.loop-class-preserved
loop-class-preserved c =
    let cs = c.args.folder.now in
    let classes = c.deref-class-items.result.now in
    let own : Bor ClassFile → List Declared = λ k. own_words cs k.now in
    c.in_ok-push_own_words.ensures ∙ ap (λ (l : List Declared). l ++ own c.class-item.result) c.loop-class.invariant
    ∙ sym (flat_map_next own classes c.loop-class.class-index c.class-item.result c.loop-class-test.true c.class-item.is)

pub returns : goal.returns
returns c =
    let cs = c.args.folder.now in
    let classes = c.deref-class-items.result.now in
    let own : Bor ClassFile → List Declared = λ k. own_words cs k.now in
    let above : seen classes ≡ reverse (lineage cs c.args.name.now) =
    ap seen (c.deref-class-items.ensures.value ∙ c.reverse.ensures.items) ∙ reverse_seen (λ (k : Bor ClassFile). k.now) c.in_ok-classes.classes.items ∙ ap (λ (l : List ClassFile). reverse l) c.in_ok-classes.ensures in
    c.loop-class.invariant ∙ ap (flat_map own) (take_all c.loop-class.class-index classes c.loop-class-test.false)
    ∙ sym (flat_map-map (own_words cs) (λ (k : Bor ClassFile). k.now) classes) ∙ ap (flat_map (own_words cs)) above
