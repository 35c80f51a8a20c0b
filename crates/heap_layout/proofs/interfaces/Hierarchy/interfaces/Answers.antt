use Rattle.std.proofs.Common.{◌≡◌, List, ℕ, [], Some, None, Bor, map, refl, sym, ap, ◌∙◌, subst, rules}
use Rattle.std.specs.Prelude.{option_map, IfOk}
use Rattle.jmodel.specs.format.ClassFile.{ClassFile}
use Rattle.objects.specs.linking.Members.{own_name}
use Rattle.objects.specs.linking.Superclasses.{class_named}
use Rattle.objects.specs.linking.Resolution.{ancestry}
use Rattle.objects.specs.linking.Layout.{in_text_order}
use Rattle.hierarchy.proofs.Parts.{same_bytes}
use Rattle.hierarchy.proofs.Standing.{stands}
use Rattle.hierarchy.proofs.Upward.{same_place}
use Rattle.hierarchy.specs.Places.{place_of}
use Rattle.resolution.specs.Ways.{IsWay, classes_at}
use Rattle.heap_layout.proofs.Above.{interfaces_of, none_upward, one_list}
use Rattle.heap_layout.proofs.interfaces.Hierarchy.interfaces.Goals as goal

pub returns-in_default : goal.returns-in_default
returns-in_default c =
    let cs = c.args.self.now in
    let name = c.args.name.now in
    let none : class_named cs name ≡ None = ap (λ (ds : List ClassFile). class_named ds name) (sym c.self.view_is) ∙ sym c.class_named.ensures ∙ ap (option_map (λ k. k.now)) c.in_default.is in
    let nothing : map (λ (t : Bor (List ℕ)). t.now) c.new.result.items ≡ [] = search rules in
    nothing ∙ sym (ap (λ (ds : List ClassFile). in_text_order (interfaces_of ds)) (none_upward cs name none))

pub returns : goal.returns
returns c =
    let cs = c.args.self.now in
    let name = c.args.name.now in
    let class = c.in-Some.class.now in
    let places = c.ancestry-way.result.now in
    let is : class_named cs name ≡ Some class = ap (λ (ds : List ClassFile). class_named ds name) (sym c.self.view_is) ∙ sym c.class_named.ensures ∙ ap (option_map (λ k. k.now)) c.in-Some.is in
    let own : own_name class ≡ name = same_bytes (own_name class) name (same_place cs (place_of cs name) class name (stands cs name ∙ is) refl) in
    let same = c.self.invariant ∙ c.self.view_is in
    let here : IsWay cs places (ancestry cs c.own_name.result.now) = subst (λ (ds : List ClassFile). IsWay ds places (ancestry ds c.own_name.result.now)) same c.ancestry-way.ensures in
    let way : IsWay cs places (ancestry cs name) = subst (λ (n : List ℕ). IsWay cs places (ancestry cs n)) (c.own_name.ensures ∙ own) here in
    let texts : in_text_order (map (λ (t : Bor (List ℕ)). t.now) c.as_slice.result.now) ≡ in_text_order (interfaces_of (ancestry cs name)) =
    ap (λ (l : List (Bor (List ℕ))). in_text_order (map (λ (t : Bor (List ℕ)). t.now) l)) c.as_slice.ensures.value
    ∙ ap in_text_order c.in_ok-names.ensures
    ∙ ap (λ (ds : List ClassFile). in_text_order (interfaces_of (classes_at ds places))) (c.places.ensures ∙ same)
    ∙ one_list cs places (ancestry cs name) way in
    subst (λ (l : List (List ℕ)). IfOk c.in_text_order.result (λ v. map (λ (t : Bor (List ℕ)). t.now) v.items ≡ l)) texts c.in_text_order.ensures
