-- Items of a list, by what is seen of them.
use Rattle.std.proofs.Common.{◌≡◌, ◌<◌, ◌+◌, ◌∙◌, ◌⊎◌, ◌↔◌, inl, inr, ℕ, Bool, List, [], ◌∷◌, ◌++◌, length, get_or, ap, sym, refl, subst, ◌-◌, Contains, arith}
use Rattle.std.proofs.lemmas.List.{get_or-map, length-map, map-append, length-append, get_or_append_left, get_or-append_right, get_or_default}
use Rattle.std.proofs.lemmas.List.Elements.{Contains-append_left, Contains-push, Contains-push_cases}
use Rattle.std.proofs.lemmas.Bool.{cases_lt}
use Rattle.deuce_io.specs.declared.folder.Item.{Item}
use Rattle.deuce_io.specs.Files.{seen_item, seen_items, NoRepeats}

-- what is seen at an item's place
pub seen_at : (items : List Item) (i : ℕ) (item : Item) (d : List ℕ × Bool)
    → i < length items → item ≡ get_or items i item → get_or (seen_items items) i d ≡ seen_item item
seen_at items i item d lt is = get_or-map seen_item items i item d lt ∙ ap seen_item (sym is)

-- an item of the list is seen in it
pub seen_in : (items : List Item) (i : ℕ) (item : Item)
    → i < length items → item ≡ get_or items i item → Contains (seen_items items) (seen_item item)
seen_in items i item lt is = (i, omega (arith, length-map items seen_item), seen_at items i item (seen_item item) lt is)

-- a list with one item more
pub seen_pushed : (old new : List Item) (item : Item) (seen : List ℕ × Bool)
    → new ≡ old ++ item ∷ [] → seen_item item ≡ seen → seen_items new ≡ seen_items old ++ seen ∷ []
seen_pushed old new item seen is e = ap seen_items is ∙ map-append seen_item old (item ∷ []) ∙ ap (λ (x : List ℕ × Bool). seen_items old ++ x ∷ []) e

-- what a list with one element more contains
pub contains_pushed : {X : Type 0} (old new : List X) (y : X) → new ≡ old ++ y ∷ [] → (x : X) → Contains new x ↔ (Contains old x ⊎ (x ≡ y))
contains_pushed {X} old new y is x =
    let there : Contains new x → Contains old x ⊎ (x ≡ y) =
    λ h. elim (Contains-push_cases old y x (subst (λ (l : List X). Contains l x) is h)) as (λ _. Contains old x ⊎ (x ≡ y)) [ inl a ↦ inl a | inr e ↦ inr (sym e) ] in
    let back : Contains old x ⊎ (x ≡ y) → Contains (old ++ y ∷ []) x =
    λ h. elim h as (λ _. Contains (old ++ y ∷ []) x) [ inl a ↦ Contains-append_left old (y ∷ []) x a | inr e ↦ subst (λ (z : X). Contains (old ++ y ∷ []) z) (sym e) (Contains-push old y) ] in
    (there, λ h. subst (λ (l : List X). Contains l x) (sym is) (back h))

-- a new element stands once
pub once_pushed : {X : Type 0} (old new : List X) (y : X) → new ≡ old ++ y ∷ [] → (Contains old y → ⊥) → NoRepeats old → NoRepeats new
once_pushed {X} old new y is fresh once i j d lt end same =
    let size : length new ≡ length old + 1 = ap length is ∙ length-append old (y ∷ []) in
    let at_i : get_or new i d ≡ get_or old i d = ap (λ (l : List X). get_or l i d) is ∙ get_or_append_left old (y ∷ []) d i (omega arith) in
    elim (cases_lt j (length old)) as (λ _. ⊥) [
      | inl early ↦
          once i j d lt early (sym at_i ∙ same ∙ ap (λ (l : List X). get_or l j d) is ∙ get_or_append_left old (y ∷ []) d j early)
      | inr late ↦
          let i_lt : i < length old = omega arith in
          let last : j ≡ length old = omega arith in
          let at_j : get_or new j d ≡ y = ap (λ (l : List X). get_or l j d) is ∙ get_or-append_right old (y ∷ []) (length old) j d refl late ∙ ap (λ (k : ℕ). get_or (y ∷ []) k d) (let z : j - length old ≡ 0 = omega arith in z) in
          fresh (i, i_lt, get_or_default old i y d i_lt ∙ sym at_i ∙ same ∙ at_j)
    ]
