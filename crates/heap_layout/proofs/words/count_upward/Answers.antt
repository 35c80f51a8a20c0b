use Rattle.std.proofs.Common.{◌≡◌, List, length, Bor, sym, ap, ◌∙◌, arith}
use Rattle.std.specs.List.{flat_map}
use Rattle.std.proofs.lemmas.List.{take_all, length-append, length-map}
use Rattle.std.proofs.lemmas.List.Folds.{flat_map-map}
use Rattle.jmodel.specs.format.ClassFile.{ClassFile}
use Rattle.objects.specs.linking.Superclasses.{lineage}
use Rattle.objects.specs.semantics.Program.{Declared}
use Rattle.objects.specs.linking.Layout.{own_words}
use Rattle.hierarchy.proofs.Each.{flat_map_next}
use Rattle.hierarchy.proofs.InOrder.{seen}
use Rattle.heap_layout.proofs.Lengths.{length_backward}
use Rattle.heap_layout.proofs.words.count_upward.Goals as goal

pub loop-class-preserved : goal.loop-class-preserved
loop-class-preserved c =
    let cs = c.args.folder.now in
    let classes = c.deref-class-items.result.now in
    let own : Bor ClassFile → List Declared = λ k. own_words cs k.now in
    let next = ap (λ (l : List Declared). length l) (flat_map_next own classes c.loop-class.class-index c.class-item.result c.loop-class-test.true c.class-item.is) in
    let more : length (own c.class-item.result) ≡ c.count_own.result = length-map _ _ ∙ sym c.count_own.ensures in
    omega (arith, next, more, length-append {A = Declared}, c.loop-class.invariant, c.in_ok-count.ensures)

pub returns : goal.returns
returns c =
    let cs = c.args.folder.now in
    let classes = c.deref-class-items.result.now in
    let own : Bor ClassFile → List Declared = λ k. own_words cs k.now in
    let all : ◌≡◌ {A = List Declared} (flat_map own classes) (flat_map (own_words cs) (lineage cs c.args.name.now)) =
    sym (flat_map-map (own_words cs) (λ (k : Bor ClassFile). k.now) classes) ∙ ap (flat_map (own_words cs)) (ap seen c.deref-class-items.ensures.value ∙ c.in_ok-lineage.ensures) in
    c.loop-class.invariant ∙ ap (λ (l : List (Bor ClassFile)). length (flat_map own l)) (take_all c.loop-class.class-index classes c.loop-class-test.false)
    ∙ ap (λ (l : List Declared). length l) all ∙ sym (length_backward (own_words cs) (lineage cs c.args.name.now))
