-- The last byte of texts.
use Rattle.std.proofs.Common.{◌≡◌, ℕ, ◌<◌, ◌&&◌, Bool, true, false, nat_eq, List, [], ◌∷◌, ◌++◌, length, Option, Some, None, IfSome, nat_lt, cond, refl, sym, ap, ◌∙◌, arith}
use Rattle.std.specs.Prelude.{bytes_eq, position}
use Rattle.std.specs.List.{IsLastAndRest, position_or_len}
use Rattle.std.proofs.lemmas.Bool.Decides.{nat_tests}
use Rattle.objects.specs.typing.TypeOrder.{without_last, is_ended}

-- what was put last is gone
put_last : (n : List ℕ) (x : ℕ) → without_last (n ++ x ∷ []) ≡ n
put_last [] x = refl
put_last (c ∷ []) x = refl
put_last (c ∷ d ∷ cs) x = ap (λ (l : List ℕ). c ∷ l) (put_last (d ∷ cs) x)

-- a thing is the same as itself
itself : (n : ℕ) → nat_eq n n ≡ true
itself n = grind (arith, nat_tests)

-- a test and true
right : (b : Bool) → (b && true) ≡ b
right true = refl
right false = refl

-- texts that differ in the last byte at most
last_bytes : (n : List ℕ) (a b : ℕ) → bytes_eq (n ++ a ∷ []) (n ++ b ∷ []) ≡ nat_eq a b
last_bytes [] a b = right (nat_eq a b)
last_bytes (c ∷ n) a b = ap (λ (t : Bool). t && bytes_eq (n ++ a ∷ []) (n ++ b ∷ [])) (itself c) ∙ last_bytes n a b

-- all bytes but the last
pub front_is : (xs : List ℕ) (x : ℕ) (front : List ℕ) → IsLastAndRest xs x front → front ≡ without_last xs
front_is xs x front h = sym (ap without_last h.0 ∙ put_last front x)

-- a list without items
empty : (xs : List ℕ) → length xs ≡ 0 → xs ≡ []
empty [] h = refl
empty (x ∷ xs) h = absurd (omega (arith, h))

-- nothing stands before the end of nothing
pub no_front : (xs : List ℕ) → length xs ≡ 0 → without_last xs ≡ []
no_front xs h = ap without_last (empty xs h)

-- whether a semicolon is last
pub ended_is : (xs : List ℕ) (x : ℕ) (front : List ℕ) → IsLastAndRest xs x front → is_ended xs ≡ nat_eq x 59
ended_is xs x front h =
    ap is_ended h.0 ∙ ap (λ (l : List ℕ). bytes_eq (front ++ x ∷ []) (l ++ 59 ∷ [])) (put_last front x) ∙ last_bytes front x 59

-- nothing ends with no semicolon
pub not_ended : (xs : List ℕ) → length xs ≡ 0 → is_ended xs ≡ false
not_ended xs h = ap is_ended (empty xs h)

-- a place that was found is inside
pub found_inside : {A : Type 0} (p : A → Bool) (xs : List A) (o : Option ℕ) → o ≡ position p xs → IfSome o (λ n. n < length xs)
found_inside p xs o e = go (position_or_len p xs) (length xs) (nat_lt (position_or_len p xs) (length xs)) refl o e
  where
    go : (at many : ℕ) (b : Bool) → nat_lt at many ≡ b → (o : Option ℕ) → o ≡ cond b (Some at) None → IfSome o (λ n. n < many)
    go at many true t (Some n) e = let same : n ≡ at = cc in grind (arith, nat_tests)
    go at many true t None e = tt
    go at many false t (Some n) e = absurd cc
    go at many false t None e = tt
