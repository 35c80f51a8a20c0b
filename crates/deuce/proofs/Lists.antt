-- Lists of a known length.
use Rattle.std.proofs.Common.{true, false, eqb, ◌+◌, ◌<◌, ◌∙◌, ap, get_or, add-one, take, slice_get, Some, None, ◌≡◌, ℕ, zero, suc, List, [], ◌∷◌, ◌++◌, length, slice_index_or, refl, sym, subst, arith, Result, Ok, Err}
use Rattle.std.specs.Prelude.{IfOk, IfErr}
use Rattle.std.specs.Result.{IsErrAnd}
use Rattle.std.specs.List.{AllByRecursion, AllZip}
use Rattle.std.proofs.lemmas.Bool.{eqb-true}
use Rattle.std.proofs.lemmas.List.{take_more}
use Rattle.std.proofs.lemmas.Option.{slice_get_read}

-- a list of three by its elements
pub three : {X : Type 0} (xs : List X) (a b c : X) → length xs ≡ 3 → a ≡ slice_index_or xs 0 a → b ≡ slice_index_or xs 1 b → c ≡ slice_index_or xs 2 c
    → xs ≡ a ∷ b ∷ c ∷ []
three [] a b c n x y z = absurd (omega (arith, n))
three (p ∷ []) a b c n x y z = absurd (omega (arith, n))
three (p ∷ q ∷ []) a b c n x y z = absurd (omega (arith, n))
three (p ∷ q ∷ r ∷ []) a b c n x y z = cc
three (p ∷ q ∷ r ∷ s ∷ t) a b c n x y z = absurd (omega (arith, n))

-- what follows from a fact of the value in an Ok
pub on_ok : {A E : Type 0} (r : Result A E) (P Q : A → Type 0) → ((x : A) → P x → Q x) → IfOk r P → IfOk r Q
on_ok (Ok x) P Q f h = f x h
on_ok (Err e) P Q f h = tt

-- a list whose length isn't 0 has an element, and one whose length is 0 has none
pub not_empty : {A : Type 0} (xs : List A) (n : ℕ) → n ≡ length xs → eqb n 0 ≡ false → 0 < length xs
not_empty [] n size other = let none : n ≡ 0 = size in let test : eqb n 0 ≡ true = ap (λ (k : ℕ). eqb k 0) none in let differ : true ≡ false = sym test ∙ other in absurd (cc)
not_empty (x ∷ xs) n size other = omega arith

pub is_empty : {A : Type 0} (xs : List A) (n : ℕ) → n ≡ length xs → eqb n 0 ≡ true → xs ≡ []
is_empty [] n size none = refl
is_empty (x ∷ xs) n size none = let zero : n ≡ 0 = eqb-true n 0 none in absurd (omega (arith, size, zero))

-- what follows from a fact of the value in an Err
pub on_err : {A E : Type 0} (r : Result A E) (P Q : E → Type 0) → ((e : E) → P e → Q e) → IfErr r P → IfErr r Q
on_err (Ok x) P Q f h = tt
on_err (Err e) P Q f h = f e h

-- the end that a `?` hands on
pub err_is : {A E : Type 0} (r : Result A E) (e : E) (Q : E → Type 0) → IsErrAnd r (λ y. y ≡ e) → Q e → IfErr r Q
err_is (Ok x) e Q h q = tt
err_is (Err y) e Q h q = subst Q (sym h) q

-- and the result with it
pub err_at : {A E : Type 0} (r : Result A E) (e : E) → IsErrAnd r (λ y. y ≡ e) → r ≡ Err e
err_at (Ok x) e h = absurd h
err_at (Err y) e h = ap Err h

-- what holds of each up to a place, and there, holds of each up to the next
pub all_more : {A : Type 0} (P : A → Type 0) (xs : List A) (n : ℕ) → AllByRecursion P (take n xs) → ((x : A) → slice_get xs n ≡ Some x → P x) → AllByRecursion P (take (n + 1) xs)
all_more P xs n so_far next = rw add-one (go P xs n so_far next)
  where
    go : {A : Type 0} (P : A → Type 0) (xs : List A) (n : ℕ) → AllByRecursion P (take n xs) → ((x : A) → slice_get xs n ≡ Some x → P x) → AllByRecursion P (take (suc n) xs)
    go P [] n so_far next = tt
    go P (x ∷ xs) zero so_far next = (next x refl, tt)
    go P (x ∷ xs) (suc n) so_far next = (so_far.0, go P xs n so_far.1 next)

-- what holds of each, and of one more
pub all_pushed : {A : Type 0} (P : A → Type 0) (xs : List A) (x : A) → AllByRecursion P xs → P x → AllByRecursion P (xs ++ x ∷ [])
all_pushed P [] x all one = (one, tt)
all_pushed P (y ∷ xs) x all one = (all.0, all_pushed P xs x all.1 one)

-- two lists that are alike, each with one more
zip_pushed : {A B : Type 0} (R : A → B → Type 0) (xs : List A) (ys : List B) (x : A) (y : B) → AllZip R xs ys → R x y → AllZip R (xs ++ x ∷ []) (ys ++ y ∷ [])
zip_pushed R [] [] x y all one = (one, tt)
zip_pushed R [] (z ∷ ys) x y all one = absurd all
zip_pushed R (w ∷ xs) [] x y all one = absurd all
zip_pushed R (w ∷ xs) (z ∷ ys) x y all one = (all.0, zip_pushed R xs ys x y all.1 one)

-- what is alike up to a place, and there, is alike up to the next
pub zip_more : {A B : Type 0} (R : A → B → Type 0) (xs : List A) (ys : List B) (i : ℕ) (x : A) (y : B) → i < length xs → x ≡ get_or xs i x → AllZip R (take i xs) ys → R x y → AllZip R (take (i + 1) xs) (ys ++ y ∷ [])
zip_more {A} {B} R xs ys i x y lt is all one =
    let more : take (i + 1) xs ≡ take i xs ++ x ∷ [] = take_more xs i x lt ∙ ap (λ (z : A). take i xs ++ z ∷ []) (sym is) in
    subst (λ (l : List A). AllZip R l (ys ++ y ∷ [])) (sym more) (zip_pushed R (take i xs) ys x y all one)

pub some_not_none : {A : Type 0} (x : A) → Some x ≡ None → ⊥
some_not_none x h = cc

-- what holds of each holds of the one at a place
pub all_at : {A : Type 0} (P : A → Type 0) (xs : List A) (i : ℕ) (x : A) → AllByRecursion P xs → slice_get xs i ≡ Some x → P x
all_at P [] i x all h = cc
all_at P (y ∷ xs) zero x all h = let same : y ≡ x = cc in subst P same all.0
all_at P (y ∷ xs) (suc i) x all h = all_at P xs i x all.1 h

pub all_read : {A : Type 0} (P : A → Type 0) (xs : List A) (i : ℕ) (x : A) → AllByRecursion P xs → i < length xs → x ≡ get_or xs i x → P x
all_read P xs i x all lt is = all_at P xs i x all (slice_get_read xs (length xs) i x refl lt is)

-- what follows from what holds of each
pub all_as : {A : Type 0} (P Q : A → Type 0) → ((x : A) → P x → Q x) → (xs : List A) → AllByRecursion P xs → AllByRecursion Q xs
all_as P Q f [] h = tt
all_as P Q f (x ∷ xs) h = (f x h.0, all_as P Q f xs h.1)
