-- Lists in order, and lists that hold the same.
use Rattle.std.proofs.Common.{◌≡◌, ℕ, zero, suc, ◌<◌, List, [], ◌∷◌, ◌++◌, length, get_or, set, drop, map, All, AllPairs, Result, Ok, Err, refl, sym, ◌∙◌, ap, subst, arith}
use Rattle.std.specs.Prelude.{IfOk, IsErrAnd, MatchResult, IsPermutation}
use Rattle.std.specs.List.{AllByRecursion, AllZip, insert, remove}
use Rattle.std.proofs.Math.ListN.{get_or-map}
use Rattle.std.proofs.lemmas.List.{append_assoc, length-map}
use Rattle.std.proofs.lemmas.List.Elements.{All-nil, All-cons, All-head, All-tail, All-append, All-weaker}
use Rattle.std.proofs.lemmas.List.Kept.{AllPairs-cons}
use Rattle.std.proofs.lemmas.List.Sorted.{IsPermutation-append, IsPermutation-append_comm, IsPermutation-append_left, IsPermutation-append_right, IsPermutation-trans}

-- what follows from a fact of the value in an Ok
pub on_ok : {A E : Type 0} (r : Result A E) (P Q : A → Type 0) → ((x : A) → P x → Q x) → IfOk r P → IfOk r Q
on_ok (Ok x) P Q f h = f x h
on_ok (Err e) P Q f h = tt

-- what follows where another error takes the place of an Err
pub on_kept : {A E F : Type 0} (r : Result A E) (s : Result A F) (G : E → F → Type 0) (P Q : A → Type 0) → ((x : A) → P x → Q x)
    → MatchResult r (λ x. s ≡ Ok x) (λ e. IsErrAnd s (G e)) → IfOk r P → IfOk s Q
on_kept (Ok x) s G P Q f is h = subst (λ t. IfOk t Q) (sym is) (f x h)
on_kept (Err e) (Ok x) G P Q f is h = absurd is
on_kept (Err e) (Err y) G P Q f is h = tt

-- what holds of each holds of the one at a place
pub all_here : {A : Type 0} (P : A → Type 0) (xs : List A) (i : ℕ) (x : A) → AllByRecursion P xs → i < length xs → x ≡ get_or xs i x → P x
all_here P [] i x all h is = absurd (omega (arith, h))
all_here P (y ∷ xs) zero x all h is = subst P (sym is) all.0
all_here P (y ∷ xs) (suc i) x all h is = all_here P xs i x all.1 (omega (arith, h)) is

pub all_drop : {A : Type 0} (P : A → Type 0) (n : ℕ) (xs : List A) → AllByRecursion P xs → AllByRecursion P (drop n xs)
all_drop P zero xs h = h
all_drop P (suc n) [] h = tt
all_drop P (suc n) (x ∷ xs) h = all_drop P n xs h.1

-- what holds of two lists place by place holds at a place
pub zip_here : {A B : Type 0} (R : A → B → Type 0) (xs : List A) (ys : List B) (i : ℕ) (x : A) (e : B) → AllZip R xs ys → i < length xs → x ≡ get_or xs i x
    → R x (get_or ys i e)
zip_here R [] ys i x e h below is = absurd (omega (arith, below))
zip_here R (y ∷ xs) [] i x e h below is = absurd h
zip_here R (y ∷ xs) (z ∷ ys) zero x e h below is = let Here : _ → Type 0 = λ w. R w z in subst Here (sym is) h.0
zip_here R (y ∷ xs) (z ∷ ys) (suc i) x e h below is = zip_here R xs ys i x e h.1 (omega (arith, below)) is

pub all_map : {A B : Type 0} (f : A → B) (P : B → Type 0) (xs : List A) → All (λ x. P (f x)) xs → All P (map f xs)
all_map f P [] h = All-nil P
all_map f P (x ∷ xs) h = All-cons P (f x) (map f xs) (All-head (λ y. P (f y)) x xs h) (all_map f P xs (All-tail (λ y. P (f y)) x xs h))

pub all_from_map : {A B : Type 0} (f : A → B) (P : B → Type 0) (xs : List A) → All P (map f xs) → All (λ x. P (f x)) xs
all_from_map f P xs h = λ k d below. subst P (get_or-map f xs k d) (h k (f d) (rw length-map below))

pub all_left : {A : Type 0} (P : A → Type 0) (xs ys : List A) → All P (xs ++ ys) → All P xs
all_left P [] ys h = All-nil P
all_left P (x ∷ xs) ys h = All-cons P x xs (All-head P x (xs ++ ys) h) (all_left P xs ys (All-tail P x (xs ++ ys) h))

pub all_right : {A : Type 0} (P : A → Type 0) (xs ys : List A) → All P (xs ++ ys) → All P ys
all_right P [] ys h = h
all_right P (x ∷ xs) ys h = all_right P xs ys (All-tail P x (xs ++ ys) h)

pub pairs_nil : {A : Type 0} (R : A → A → Type 0) → AllPairs R []
pairs_nil R = λ i j d a b. absurd (omega arith)

pub pairs_head : {A : Type 0} (R : A → A → Type 0) (x : A) (xs : List A) → AllPairs R (x ∷ xs) → All (R x) xs
pairs_head R x xs h = λ k d below. h 0 (suc k) d (omega arith) (omega arith)

pub pairs_tail : {A : Type 0} (R : A → A → Type 0) (x : A) (xs : List A) → AllPairs R (x ∷ xs) → AllPairs R xs
pairs_tail R x xs h = λ i j d a b. h (suc i) (suc j) d (omega arith) (omega arith)

-- two lists in order, of which all of the one may stand before all of the other
pub pairs_append : {A : Type 0} (R : A → A → Type 0) (P Q : A → Type 0) → ((x y : A) → P x → Q y → R x y) → (xs ys : List A) → AllPairs R xs → AllPairs R ys
    → All P xs → All Q ys → AllPairs R (xs ++ ys)
pairs_append R P Q may [] ys h k p q = k
pairs_append R P Q may (x ∷ xs) ys h k p q =
    AllPairs-cons R x (xs ++ ys) (All-append (R x) xs ys (pairs_head R x xs h) (All-weaker Q (R x) (λ y z. may x y (All-head P x xs p) z) ys q))
    (pairs_append R P Q may xs ys (pairs_tail R x xs h) k (All-tail P x xs p) q)

pub pairs_map : {A B : Type 0} (f : A → B) (R : B → B → Type 0) (xs : List A) → AllPairs (λ x y. R (f x) (f y)) xs → AllPairs R (map f xs)
pairs_map f R [] h = pairs_nil R
pairs_map f R (x ∷ xs) h =
    AllPairs-cons R (f x) (map f xs) (all_map f (R (f x)) xs (pairs_head (λ x y. R (f x) (f y)) x xs h))
    (pairs_map f R xs (pairs_tail (λ x y. R (f x) (f y)) x xs h))

pub pairs_from_map : {A B : Type 0} (f : A → B) (R : B → B → Type 0) (xs : List A) → AllPairs R (map f xs) → AllPairs (λ x y. R (f x) (f y)) xs
pairs_from_map f R [] h = pairs_nil (λ x y. R (f x) (f y))
pairs_from_map f R (x ∷ xs) h =
    AllPairs-cons (λ x y. R (f x) (f y)) x xs (all_from_map f (R (f x)) xs (pairs_head R (f x) (map f xs) h))
    (pairs_from_map f R xs (pairs_tail R (f x) (map f xs) h))

-- what two lists hold, each sorted into two
pub sorted_out : {A : Type 0} (xs ys p q u v : List A) → IsPermutation xs (p ++ u) → IsPermutation ys (q ++ v) → IsPermutation (xs ++ ys) ((p ++ q) ++ (u ++ v))
sorted_out xs ys p q u v h k =
    IsPermutation-trans (xs ++ ys) ((p ++ u) ++ (q ++ v)) ((p ++ q) ++ (u ++ v)) (IsPermutation-append xs (p ++ u) ys (q ++ v) h k)
    (subst (λ l. IsPermutation l ((p ++ q) ++ (u ++ v))) (sym before) (subst (λ l. IsPermutation (p ++ ((u ++ q) ++ v)) l) (sym behind)
    (IsPermutation-append_right p ((u ++ q) ++ v) ((q ++ u) ++ v) (IsPermutation-append_left v (u ++ q) (q ++ u) (IsPermutation-append_comm u q)))))
  where
    before : (p ++ u) ++ (q ++ v) ≡ p ++ ((u ++ q) ++ v)
    before = append_assoc p u (q ++ v) ∙ ap (λ l. p ++ l) (sym (append_assoc u q v))

    behind : (p ++ q) ++ (u ++ v) ≡ p ++ ((q ++ u) ++ v)
    behind = append_assoc p q (u ++ v) ∙ ap (λ l. p ++ l) (sym (append_assoc q u v))

-- an element is taken out of a list, and another put in its place
pub insert_removed : {X : Type 0} (xs : List X) (n : ℕ) (x : X) → n < length xs → insert (remove xs n) n x ≡ set xs n x
insert_removed [] n x low = absurd (omega (arith, low))
insert_removed (y ∷ xs) zero x low = refl
insert_removed (y ∷ xs) (suc n) x low = ap (λ l. y ∷ l) (insert_removed xs n x (omega (arith, low)))

-- what holds of a result for each of two reasons
pub if_both : {A E : Type 0} (P Q R : A → Type 0) (x : Result A E) → ((a : A) → P a → Q a → R a) → IfOk x P → IfOk x Q → IfOk x R
if_both P Q R (Ok a) both p q = both a p q
if_both P Q R (Err e) both p q = tt
