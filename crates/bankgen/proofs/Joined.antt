-- Items with commas between them, and one more.
use Rattle.std.proofs.Common.{◌≡◌, ℕ, List, [], ◌∷◌, ◌++◌, length, refl, sym, ap, ◌∙◌, append_assoc}
use Rattle.std.specs.List.{join_with_byte}
use Rattle.bankgen.specs.Separator.{separator}

pub join_more : (xs : List (List ℕ)) (y : List ℕ) → join_with_byte 44 (xs ++ y ∷ []) ≡ join_with_byte 44 xs ++ (separator (length xs) ++ y)
join_more [] y = refl
join_more (x ∷ []) y = refl
join_more (x ∷ z ∷ xs) y = ap (λ t. x ++ 44 ∷ t) (join_more (z ∷ xs) y) ∙ sym (append_assoc x (44 ∷ join_with_byte 44 (z ∷ xs)) (44 ∷ y))

adds : (begin out : List ℕ) (xs : List (List ℕ)) (y : List ℕ) → out ≡ begin ++ join_with_byte 44 xs
    → (out ++ separator (length xs)) ++ y ≡ begin ++ join_with_byte 44 (xs ++ y ∷ [])
adds begin out xs y h =
    append_assoc out (separator (length xs)) y
    ∙ ap (λ t. t ++ (separator (length xs) ++ y)) h
    ∙ append_assoc begin (join_with_byte 44 xs) (separator (length xs) ++ y)
    ∙ ap (λ t. begin ++ t) (sym (join_more xs y))

-- a text of a beginning and of items, with a separator and one more item behind it
pub adds_item : (begin out : List ℕ) (xs : List (List ℕ)) (y between new : List ℕ) (n : ℕ) → out ≡ begin ++ join_with_byte 44 xs → length xs ≡ n
    → between ≡ out ++ separator n → new ≡ between ++ y → new ≡ begin ++ join_with_byte 44 (xs ++ y ∷ [])
adds_item begin out xs y between new n h l b e =
    e ∙ ap (λ t. t ++ y) (b ∙ ap (λ m. out ++ separator m) (sym l)) ∙ adds begin out xs y h
