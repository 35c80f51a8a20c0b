use Rattle.std.proofs.Common.{◌≡◌, List, [], ◌∷◌, ℕ, true, false, take, drop, ◌++◌, ap, sym, ◌∙◌, rules}
use Rattle.objects.specs.typing.TypeOrder.{object_class, is_array, descriptor_of}
use Rattle.objects.specs.linking.Layout.{element_instances}
use Rattle.heap_layout.specs.Instances.{base_instances}
use Rattle.heap_layout.proofs.Elements.{behind, behind_none, bracket_step, base_last}
use Rattle.heap_layout.proofs.instances.element_instances.Goals as goal

pub loop-i-init : goal.loop-i-init
loop-i-init c =
    let d = c.args.descriptor.now in
    let all = element_instances c.args.hierarchy.now d in
    ap (λ (l : List (List ℕ)). l ++ behind [] all) c.new-names.ensures.items ∙ behind_none all

pub returns-then-not-is_array : goal.returns-then-not-is_array
returns-then-not-is_array c =
    let cs = c.args.hierarchy.now in
    let d = c.args.descriptor.now in
    let i = c.loop-i.i in
    let test : c.is_array.result ≡ false = search rules in
    let none : is_array (drop i d) ≡ false = ap is_array (sym c.rest-element.ensures) ∙ sym c.is_array.ensures ∙ test in
    let put : c.push_bases.new.names.items ≡ c.loop-i.names.items ++ behind (take i d) (base_instances cs (drop i d)) =
    c.in_ok-push_bases.ensures ∙ ap (λ (element : List ℕ). c.loop-i.names.items ++ behind (take i d) (base_instances cs element)) c.rest-element.ensures in
    base_last cs d i c.loop-i.names.items c.push_bases.new.names.items (element_instances cs d) none put c.loop-i.invariant

pub loop-i-preserved : goal.loop-i-preserved
loop-i-preserved c =
    let cs = c.args.hierarchy.now in
    let d = c.args.descriptor.now in
    let i = c.loop-i.i in
    let test : c.is_array.result ≡ true = search rules in
    let array : is_array (drop i d) ≡ true = ap is_array (sym c.rest-element.ensures) ∙ sym c.is_array.ensures ∙ test in
    let put : c.push.new.self.items ≡ c.loop-i.names.items ++ (take i d ++ descriptor_of object_class) ∷ [] =
    c.in_ok-push.ensures.items ∙ ap (λ (name : List ℕ). c.loop-i.names.items ++ name ∷ []) c.in_ok-joined.ensures in
    bracket_step cs d i c.loop-i.names.items c.push.new.self.items (element_instances cs d) c.loop-i-test.true array put c.loop-i.invariant
