-- Tests of items, as loops make them, and of the items that are chosen.
use Rattle.std.proofs.Common.{◌≡◌, Bool, true, false, not, ◌&&◌, ◌||◌, cond, List, [], ◌∷◌, refl, sym, ap, ◌∙◌}
use Rattle.std.specs.Prelude.{filter}
use Rattle.std.specs.List.{list_all}

-- an item fails
pub fails : {A : Type 0} (p : A → Bool) (front : List A) (x : A) (others : List A) (whole : Bool) → front ≡ x ∷ others → p x ≡ false → list_all p front ≡ whole → false ≡ whole
fails p front x others whole item is so_far = sym (ap (list_all p) item ∙ ap (λ (b : Bool). b && list_all p others) is) ∙ so_far

-- an item passes
pub passes : {A : Type 0} (p : A → Bool) (front : List A) (x : A) (others : List A) (whole : Bool) → front ≡ x ∷ others → p x ≡ true → list_all p front ≡ whole → list_all p others ≡ whole
passes p front x others whole item is so_far = sym (ap (list_all p) item ∙ ap (λ (b : Bool). b && list_all p others) is) ∙ so_far

-- those that are chosen pass
pub all_chosen : {A : Type 0} (p q : A → Bool) (xs : List A) → list_all (λ x. not (p x) || q x) xs ≡ list_all q (filter p xs)
all_chosen p q [] = refl
all_chosen {A} p q (x ∷ xs) = go (p x) (all_chosen p q xs)
  where
    go : (b : Bool) → list_all (λ x. not (p x) || q x) xs ≡ list_all q (filter p xs) → ((not b || q x) && list_all (λ x. not (p x) || q x) xs) ≡ list_all q (cond b (x ∷ filter p xs) (filter p xs))
    go true h = ap (λ (b : Bool). q x && b) h
    go false h = h
