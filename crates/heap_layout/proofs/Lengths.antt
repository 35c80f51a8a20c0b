-- How many items lists have that are made of others.
use Rattle.std.proofs.Common.{◌≡◌, List, [], ◌∷◌, ◌++◌, length, reverse, refl, ap, ◌∙◌, arith}
use Rattle.std.specs.List.{flat_map}
use Rattle.std.proofs.lemmas.List.{append-nil, reverse-append, length-append}
use Rattle.std.proofs.lemmas.Grind.{flat_map-append}

-- as many backward as forward
pub length_backward : {A B : Type 0} (f : A → List B) (xs : List A) → length (flat_map f (reverse xs)) ≡ length (flat_map f xs)
length_backward f [] = refl
length_backward {A} {B} f (x ∷ xs) =
    let split : flat_map f (reverse (x ∷ xs)) ≡ flat_map f (reverse xs) ++ f x = ap (flat_map f) (reverse-append (x ∷ []) xs) ∙ flat_map-append f (reverse xs) (x ∷ []) ∙ ap (λ (l : List B). flat_map f (reverse xs) ++ l) (append-nil (f x)) in
    let one = ap (λ (l : List B). length l) split in
    let two = length-append (flat_map f (reverse xs)) (f x) in
    let three = length-append (f x) (flat_map f xs) in
    omega (arith, one, two, three, length_backward f xs)
