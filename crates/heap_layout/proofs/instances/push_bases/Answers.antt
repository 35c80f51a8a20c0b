use Rattle.std.proofs.Common.{◌≡◌, List, ℕ, [], ◌∷◌, ◌++◌, map, drop, ap, sym, subst, ◌∙◌}
use Rattle.std.specs.Prelude.{option_copied, OnOk}
use Rattle.std.proofs.lemmas.List.{append-nil}
use Rattle.objects.specs.typing.TypeOrder.{descriptor_of, without_last}
use Rattle.objects.specs.linking.Layout.{class_instances}
use Rattle.heap_layout.specs.Instances.{base_instances}
use Rattle.heap_layout.proofs.Elements.{behind, base_none, base_class, base_other}
use Rattle.heap_layout.proofs.LibraryRows.{map_twice}
use Rattle.heap_layout.proofs.instances.push_bases.Goals as goal

pub returns-in_default : goal.returns-in_default
returns-in_default c =
    let before = c.args.names.now.items in
    let none = base_none c.args.hierarchy.now c.args.element.now (sym c.first.ensures.value ∙ ap option_copied c.in_default.is) in
    sym (append-nil before) ∙ ap (λ (l : List (List ℕ)). before ++ behind c.args.front.now l) (sym none)

pub returns-then-first-eq76 : goal.returns-then-first-eq76
returns-then-first-eq76 c =
    let cs = c.args.hierarchy.now in
    let element = c.args.element.now in
    let front = c.args.front.now in
    let before = c.args.names.now.items in
    let first = sym c.first.ensures.value ∙ ap option_copied c.in-Some.is in
    let one = base_class cs element c.in-Some.first.now first c.if-first-eq76.true in
    let name = without_last (drop 1 element) in
    let all : before ++ map (λ (n : List ℕ). front ++ descriptor_of n) (class_instances cs c.without_last.result.now) ≡ before ++ behind front (base_instances cs element) =
    ap (λ (m : List ℕ). before ++ map (λ (n : List ℕ). front ++ descriptor_of n) (class_instances cs m)) (c.without_last.ensures ∙ ap without_last c.rest.ensures)
    ∙ ap (λ (l : List (List ℕ)). before ++ l) (sym (map_twice (λ (n : List ℕ). front ++ n) descriptor_of (class_instances cs name)) ∙ ap (behind front) (sym one)) in
    subst (λ (l : List (List ℕ)). OnOk c.push_classes.result (c.push_classes.new.names.items ≡ l)) all c.push_classes.ensures

pub returns : goal.returns
returns c =
    let cs = c.args.hierarchy.now in
    let element = c.args.element.now in
    let before = c.args.names.now.items in
    let first = sym c.first.ensures.value ∙ ap option_copied c.in-Some.is in
    let other = base_other cs element c.in-Some.first.now first c.if-first-eq76.false in
    ◌∙◌ {A = List (List ℕ)} c.in_ok-push.ensures.items (ap (λ (n : List ℕ). before ++ n ∷ []) c.in_ok-joined.ensures ∙ ap (λ (l : List (List ℕ)). before ++ behind c.args.front.now l) (sym other))
