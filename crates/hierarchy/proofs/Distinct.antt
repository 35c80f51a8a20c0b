-- Texts of which no two are the same.
use Rattle.std.proofs.Common.{◌≡◌, ℕ, zero, suc, ◌+◌, ◌<◌, Bool, true, false, not, ◌&&◌, ◌||◌, List, [], ◌∷◌, ◌++◌, length, map, take, drop, get_or, refl, sym, ap, ◌∙◌, arith}
use Rattle.std.specs.Prelude.{bytes_eq}
use Rattle.std.specs.List.{list_any}
use Rattle.std.specs.Cmp.Lexicographic.{nat_list_eq_equiv}
use Rattle.std.proofs.lemmas.List.Folds.{list_any-append}
use Rattle.objects.specs.linking.Members.{are_distinct, is_name}
use Rattle.hierarchy.specs.Names.{named}

none_after : (a : Bool) → (a && false) ≡ false
none_after true = refl
none_after false = refl

or_true : (a : Bool) → (a || true) ≡ true
or_true true = refl
or_true false = refl

or_false : (a : Bool) → (a || false) ≡ a
or_false true = refl
or_false false = refl

-- a text that is there twice
pub repeated : (xs : List (List ℕ)) (x : List ℕ) (ys : List (List ℕ)) → list_any (bytes_eq x) xs ≡ true → are_distinct (xs ++ x ∷ ys) ≡ false
repeated [] x ys h = absurd cc
repeated (y ∷ xs) x ys h = go (bytes_eq x y) refl (repeated xs x ys) h
  where
    go : (b : Bool) → bytes_eq x y ≡ b → (list_any (bytes_eq x) xs ≡ true → are_distinct (xs ++ x ∷ ys) ≡ false) → (b || list_any (bytes_eq x) xs) ≡ true → (not (list_any (bytes_eq y) (xs ++ x ∷ ys)) && are_distinct (xs ++ x ∷ ys)) ≡ false
    go true e rest k =
        let again : list_any (bytes_eq y) (xs ++ x ∷ ys) ≡ true =
        list_any-append (bytes_eq y) xs (x ∷ ys) ∙ ap (λ (b : Bool). list_any (bytes_eq y) xs || (b || list_any (bytes_eq y) ys)) (nat_list_eq_equiv.symm y x ∙ e) ∙ or_true (list_any (bytes_eq y) xs) in
        ap (λ (b : Bool). not b && are_distinct (xs ++ x ∷ ys)) again
    go false e rest k = ap (λ (b : Bool). not (list_any (bytes_eq y) (xs ++ x ∷ ys)) && b) (rest k) ∙ none_after (not (list_any (bytes_eq y) (xs ++ x ∷ ys)))

-- one more that is new
pub one_more : (xs : List (List ℕ)) (x : List ℕ) → are_distinct xs ≡ true → list_any (bytes_eq x) xs ≡ false → are_distinct (xs ++ x ∷ []) ≡ true
one_more [] x h k = refl
one_more (y ∷ xs) x h k = go (bytes_eq x y) refl (list_any (bytes_eq y) xs) refl (one_more xs x) h k
  where
    go : (b : Bool) → bytes_eq x y ≡ b → (a : Bool) → list_any (bytes_eq y) xs ≡ a → (are_distinct xs ≡ true → list_any (bytes_eq x) xs ≡ false → are_distinct (xs ++ x ∷ []) ≡ true)
        → (not a && are_distinct xs) ≡ true → (b || list_any (bytes_eq x) xs) ≡ false → (not (list_any (bytes_eq y) (xs ++ x ∷ [])) && are_distinct (xs ++ x ∷ [])) ≡ true
    go true e a f rest h k = absurd cc
    go false e true f rest h k = absurd cc
    go false e false f rest h k =
        let new : list_any (bytes_eq y) (xs ++ x ∷ []) ≡ false =
        list_any-append (bytes_eq y) xs (x ∷ []) ∙ ap (λ (b : Bool). b || (bytes_eq y x || false)) f ∙ ap (λ (b : Bool). b || false) (nat_list_eq_equiv.symm y x ∙ e) in
        ap (λ (b : Bool). not b && are_distinct (xs ++ x ∷ [])) new ∙ rest h k

-- names that have a text alone
all_true : (a : Bool) → (a && true && true) ≡ a
all_true true = refl
all_true false = refl

pub by_text : (n t : List ℕ) → is_name (named [] n []) (named [] t []) ≡ bytes_eq n t
by_text n t = all_true (bytes_eq n t)

-- one more is put among them
pub any_last : (n : List ℕ) (xs : List (List ℕ)) (x : List ℕ) → (list_any (bytes_eq n) xs || bytes_eq n x) ≡ list_any (bytes_eq n) (xs ++ x ∷ [])
any_last n xs x = sym (list_any-append (bytes_eq n) xs (x ∷ []) ∙ ap (λ (b : Bool). list_any (bytes_eq n) xs || b) (or_false (bytes_eq n x)))

-- the texts before an item, its own, and those behind
pub split_at : {A : Type 0} (f : A → List ℕ) (xs : List A) (i : ℕ) (x : A) → i < length xs → x ≡ get_or xs i x → map f xs ≡ map f (take i xs) ++ f x ∷ map f (drop (i + 1) xs)
split_at f [] i x inside is = absurd (omega (arith, inside))
split_at {A} f (y ∷ xs) zero x inside is = ap (λ (z : A). f z ∷ map f xs) (sym is)
split_at f (y ∷ xs) (suc i) x inside is =
    let e : suc i + 1 ≡ suc (i + 1) = omega arith in
    ap (λ (l : List (List ℕ)). f y ∷ l) (split_at f xs i x (omega (arith, inside)) is) ∙ ap (λ (n : ℕ). f y ∷ (map f (take i xs) ++ f x ∷ map f (drop n (y ∷ xs)))) (sym e)
