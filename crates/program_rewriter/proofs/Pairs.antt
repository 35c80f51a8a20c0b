-- The accessors of fields, as a loop collects them.
use Rattle.std.proofs.Common.{◌≡◌, ℕ, suc, ◌+◌, ◌<◌, List, [], ◌∷◌, ◌++◌, length, drop, get_or, sym, ap, ◌∙◌, append_assoc, add-one, drop-cons}
use Rattle.objects.specs.semantics.Program.{Field, Method}
use Rattle.objects.specs.rewriting.Rewriting.{getter_method, setter_method, accessors}

-- those of one more field
pub accessors_go_on : (front all : List Method) (fs : List Field) (i : ℕ) (f : Field) → i < length fs → f ≡ get_or fs i f → front ++ accessors i (drop i fs) ≡ all
    → (front ++ getter_method i f ∷ setter_method f ∷ []) ++ accessors (i + 1) (drop (i + 1) fs) ≡ all
accessors_go_on front all fs i f h is so_far =
    let item : drop i fs ≡ f ∷ drop (suc i) fs = drop-cons fs i f h ∙ ap (λ (y : Field). y ∷ drop (suc i) fs) (sym is) in
    ap (λ (n : ℕ). (front ++ getter_method i f ∷ setter_method f ∷ []) ++ accessors n (drop n fs)) (add-one i)
    ∙ append_assoc front (getter_method i f ∷ setter_method f ∷ []) (accessors (suc i) (drop (suc i) fs))
    ∙ sym (ap (λ (xs : List Method). front ++ xs) (ap (accessors i) item))
    ∙ so_far

-- two that were put behind others
pub both_pushed : {A : Type 0} (old mid new : List A) (g s x y : A) → mid ≡ old ++ g ∷ [] → new ≡ mid ++ s ∷ [] → g ≡ x → s ≡ y → new ≡ old ++ x ∷ y ∷ []
both_pushed {A} old mid new g s x y first second e f =
    second ∙ ap (λ (m : List A). m ++ s ∷ []) first ∙ append_assoc old (g ∷ []) (s ∷ []) ∙ ap (λ (z : A). old ++ z ∷ s ∷ []) e ∙ ap (λ (z : A). old ++ x ∷ z ∷ []) f

-- what was put behind others, by two equations
pub behind : {A : Type 0} (old new xs ys zs : List A) → new ≡ old ++ xs → xs ≡ ys → ys ≡ zs → new ≡ old ++ zs
behind {A} old new xs ys zs put first second = put ∙ ap (λ (os : List A). old ++ os) (first ∙ second)
