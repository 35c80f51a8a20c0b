use Rattle.std.proofs.Common.{ℕ, ℤ, ◌<◌, List, length, Ok, Err, rules, w32, ap, subst, ◌∙◌}
use Rattle.std.specs.List.Sorted.{IsBinarySearchResult}
use Rattle.std.specs.Ordering.{int_cmp}
use Rattle.std.proofs.lemmas.Int.{to_z-of_z}
use Rattle.std.proofs.lemmas.List.Sorted.{answers_always}
use mir.Val.{SFits}
use Rattle.objects.specs.semantics.Step.{switched}
use Rattle.objects.proofs.Ascending.{found_case, missing_case}
use Rattle.objects.proofs.switch.Cases.target.Goals as goal

-- the closure gives a case's key, and the slice has the cases
pub returns-in-Ok : goal.returns-in-Ok
returns-in-Ok c =
    let items = c.self.inside.items.items in
    let key = c.args.key in
    let facts = c.in-Ok.ensures in
    let small : SFits w32 key = search rules in
    let by_key = facts.position (λ pair. pair.0) (answers_always _ _ _ (λ f a r g called. search rules)) in
    let by : IsBinarySearchResult (λ (p : ℤ × ℕ). int_cmp p.0 key) items (Ok c.in-Ok.at) =
    subst (λ (l : List (ℤ × ℕ)). IsBinarySearchResult (λ (p : ℤ × ℕ). int_cmp p.0 key) l (Ok c.in-Ok.at)) c.deref.ensures.value (simp to_z-of_z at by_key) in
    let bound : c.in-Ok.at < length items = subst (λ (l : List (ℤ × ℕ)). c.in-Ok.at < length l) c.deref.ensures.value facts.bound in
    ap (λ (p : ℤ × ℕ). p.1) c.index.ensures ∙ found_case items c.args.other key c.in-Ok.at c.index.result.now c.self.invariant bound by ∙ ap (λ (l : List (ℤ × ℕ)). switched c.args.other l key) c.self.view_is

pub returns-in-Err : goal.returns-in-Err
returns-in-Err c =
    let items = c.self.inside.items.items in
    let key = c.args.key in
    let facts = c.in-Err.ensures in
    let small : SFits w32 key = search rules in
    let by_key = facts.position (λ pair. pair.0) (answers_always _ _ _ (λ f a r g called. search rules)) in
    let by : IsBinarySearchResult (λ (p : ℤ × ℕ). int_cmp p.0 key) items (Err c.in-Err.field-0) =
    subst (λ (l : List (ℤ × ℕ)). IsBinarySearchResult (λ (p : ℤ × ℕ). int_cmp p.0 key) l (Err c.in-Err.field-0)) c.deref.ensures.value (simp to_z-of_z at by_key) in
    missing_case items c.args.other key c.in-Err.field-0 c.self.invariant by ∙ ap (λ (l : List (ℤ × ℕ)). switched c.args.other l key) c.self.view_is
