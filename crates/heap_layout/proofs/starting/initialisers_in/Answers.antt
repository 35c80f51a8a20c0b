use Rattle.std.proofs.Common.{ℕ, List, ◌++◌, Bor, sym, ap, ◌∙◌}
use Rattle.std.specs.Prelude.{filter}
use Rattle.std.specs.List.{flat_map}
use Rattle.std.proofs.lemmas.List.{take_all}
use Rattle.std.proofs.lemmas.List.Folds.{flat_map-map}
use Rattle.jmodel.specs.format.ClassFile.{ClassFile}
use Rattle.objects.specs.linking.Members.{own_name}
use Rattle.objects.specs.semantics.Program.{method_at}
use Rattle.objects.specs.linking.Linking.{is_initialiser_of, numbers_from}
use Rattle.hierarchy.proofs.Each.{flat_map_next}
use Rattle.hierarchy.proofs.InOrder.{seen}
use Rattle.heap_layout.proofs.Beginning.{of_class}
use Rattle.heap_layout.proofs.starting.initialisers_in.Goals as goal

pub loop-class-preserved : goal.loop-class-preserved
loop-class-preserved c =
    let P = c.args.program.now in
    let classes = c.deref-class-items.result.now in
    let all = numbers_from 0 P.methods in
    let own : Bor ClassFile → List ℕ = λ k. filter (λ m. is_initialiser_of (own_name k.now) (method_at P m)) all in
    let before = c.loop-class.found.items in
    let numbers = c.as_slice.ensures.value ∙ c.in_ok-numbers.ensures in
    c.in_ok-push_initialisers.ensures
    ∙ ap (λ (name : List ℕ). before ++ filter (λ m. is_initialiser_of name (method_at P m)) c.as_slice.result.now) c.own_name.ensures
    ∙ ap (λ (ns : List ℕ). before ++ filter (λ m. is_initialiser_of (own_name c.class-item.result.now) (method_at P m)) ns) numbers
    ∙ ap (λ (ns : List ℕ). before ++ ns) (of_class P (own_name c.class-item.result.now) all)
    ∙ ap (λ (ns : List ℕ). ns ++ own c.class-item.result) c.loop-class.invariant
    ∙ sym (flat_map_next own classes c.loop-class.class-index c.class-item.result c.loop-class-test.true c.class-item.is)

pub returns : goal.returns
returns c =
    let P = c.args.program.now in
    let classes = c.deref-class-items.result.now in
    let own : ClassFile → List ℕ = λ k. filter (λ m. is_initialiser_of (own_name k) (method_at P m)) (numbers_from 0 P.methods) in
    c.loop-class.invariant ∙ ap (flat_map (λ (k : Bor ClassFile). own k.now)) (take_all c.loop-class.class-index classes c.loop-class-test.false)
    ∙ sym (flat_map-map own (λ (k : Bor ClassFile). k.now) classes) ∙ ap (flat_map own) (ap seen c.deref-class-items.ensures.value ∙ c.in_ok-in_start_order.ensures)
