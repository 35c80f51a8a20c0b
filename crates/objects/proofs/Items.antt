-- Items of lists: where one stands among what a test, a function or a search leaves of a list.
use Rattle.std.proofs.Common.{◌≡◌, ◌⊎◌, inl, inr, ℕ, zero, suc, ◌+◌, ◌<◌, nat_lt, not, List, [], ◌∷◌, ◌++◌, length, map, Option, Some, None, Bool, true, false, refl, sym, ap, subst, ◌∙◌, arith}
use Rattle.std.specs.Prelude.{slice_get, filter, find, position, cond, zip, ◌||◌, ◌&&◌}
use Rattle.std.specs.List.{AllByRecursion, flat_map, list_any, list_all, position_or_len}
use Rattle.std.proofs.lemmas.Bool.Decides.{nat_tests}
use Rattle.std.proofs.lemmas.Option.{slice_get-get_or}
use Rattle.std.proofs.lemmas.List.Quantifiers.{position-Some}
use Rattle.objects.specs.linking.Each.{in_front, each}

-- it stands at a place
abbrev pub IsAt : {A : Type 0} → List A → A → Type 0
IsAt xs x = (i : ℕ) × (slice_get xs i ≡ Some x)

pub later : {A : Type 0} (y : A) (xs : List A) (x : A) → IsAt xs x → IsAt (y ∷ xs) x
later y xs x h = (suc h.0, h.1)

-- ---- what holds of each item

pub item : {A : Type 0} (Rule : A → Type 0) (xs : List A) (x : A) → AllByRecursion Rule xs → IsAt xs x → Rule x
item {A} Rule xs x all h = go xs h.0 all h.1
  where
    go : (xs : List A) (i : ℕ) → AllByRecursion Rule xs → slice_get xs i ≡ Some x → Rule x
    go [] i all e = cc
    go (y ∷ ys) zero all e = let s : y ≡ x = cc in subst Rule s all.0
    go (y ∷ ys) (suc i) all e = go ys i all.1 e

pub all_items : {A : Type 0} (Rule : A → Type 0) (xs : List A) → ((x : A) → IsAt xs x → Rule x) → AllByRecursion Rule xs
all_items Rule [] h = tt
all_items Rule (x ∷ xs) h = (h x (0, refl), all_items Rule xs (λ y at. h y (later x xs y at)))

-- ---- parts of lists

pub either_part : {A : Type 0} (xs ys : List A) (x : A) → IsAt (xs ++ ys) x → IsAt xs x ⊎ IsAt ys x
either_part {A} xs ys x h = go xs h.0 h.1
  where
    go : (xs : List A) (i : ℕ) → slice_get (xs ++ ys) i ≡ Some x → IsAt xs x ⊎ IsAt ys x
    go [] i e = inr (i, e)
    go (y ∷ xs) zero e = inl (0, e)
    go (y ∷ xs) (suc i) e = elim (go xs i e) [ inl a ↦ inl (later y xs x a) | inr a ↦ inr a ]

pub in_front_part : {A : Type 0} (xs ys : List A) (x : A) → IsAt xs x → IsAt (xs ++ ys) x
in_front_part {A} xs ys x h = go xs h.0 h.1
  where
    go : (xs : List A) (i : ℕ) → slice_get xs i ≡ Some x → IsAt (xs ++ ys) x
    go [] i e = cc
    go (y ∷ xs) zero e = (0, e)
    go (y ∷ xs) (suc i) e = later y (xs ++ ys) x (go xs i e)

pub in_back_part : {A : Type 0} (xs ys : List A) (x : A) → IsAt ys x → IsAt (xs ++ ys) x
in_back_part [] ys x h = h
in_back_part (y ∷ xs) ys x h = later y (xs ++ ys) x (in_back_part xs ys x h)

pub of_map : {A B : Type 0} (f : A → B) (xs : List A) (y : B) → IsAt (map f xs) y → (x : A) × IsAt xs x × (f x ≡ y)
of_map {A} {B} f xs y h = go xs h.0 h.1
  where
    go : (xs : List A) (i : ℕ) → slice_get (map f xs) i ≡ Some y → (x : A) × IsAt xs x × (f x ≡ y)
    go [] i e = cc
    go (x ∷ xs) zero e = (x, (0, refl), cc)
    go (x ∷ xs) (suc i) e = let r = go xs i e in (r.0, later x xs r.0 r.1, r.2)

pub at_map : {A B : Type 0} (f : A → B) (xs : List A) (i : ℕ) (y : B) → slice_get (map f xs) i ≡ Some y → (x : A) × (slice_get xs i ≡ Some x) × (f x ≡ y)
at_map f [] i y e = cc
at_map f (x ∷ xs) zero y e = (x, refl, cc)
at_map f (x ∷ xs) (suc i) y e = at_map f xs i y e

pub into_map : {A B : Type 0} (f : A → B) (xs : List A) (x : A) → IsAt xs x → IsAt (map f xs) (f x)
into_map {A} {B} f xs x h = go xs h.0 h.1
  where
    go : (xs : List A) (i : ℕ) → slice_get xs i ≡ Some x → IsAt (map f xs) (f x)
    go [] i e = cc
    go (y ∷ xs) zero e = let s : y ≡ x = cc in (0, ap (λ (y : A). Some (f y)) s)
    go (y ∷ xs) (suc i) e = later (f y) (map f xs) (f x) (go xs i e)

pub of_filter : {A : Type 0} (p : A → Bool) (xs : List A) (x : A) → IsAt (filter p xs) x → IsAt xs x × (p x ≡ true)
of_filter p [] x h = cc
of_filter {A} p (y ∷ xs) x h = go (p y) refl (λ k. let r = of_filter p xs x k in (later y xs x r.0, r.1)) h
  where
    kept : p y ≡ true → (IsAt (filter p xs) x → IsAt (y ∷ xs) x × (p x ≡ true)) → (i : ℕ) → slice_get (y ∷ filter p xs) i ≡ Some x → IsAt (y ∷ xs) x × (p x ≡ true)
    kept is rest zero e = let s : y ≡ x = cc in ((0, e), ap p (sym s) ∙ is)
    kept is rest (suc i) e = rest (i, e)

    go : (b : Bool) → p y ≡ b → (IsAt (filter p xs) x → IsAt (y ∷ xs) x × (p x ≡ true)) → IsAt (cond b (y ∷ filter p xs) (filter p xs)) x → IsAt (y ∷ xs) x × (p x ≡ true)
    go true is rest h = kept is rest h.0 h.1
    go false is rest h = rest h

pub into_filter : {A : Type 0} (p : A → Bool) (xs : List A) (x : A) → IsAt xs x → p x ≡ true → IsAt (filter p xs) x
into_filter {A} p xs x h is = go xs h.0 h.1
  where
    go : (xs : List A) (i : ℕ) → slice_get xs i ≡ Some x → IsAt (filter p xs) x
    go [] i e = cc
    go (y ∷ xs) zero e =
        let s : y ≡ x = cc in
        let t : p y ≡ true = ap p s ∙ is in
        rw t (0, e)
    go (y ∷ xs) (suc i) e = by (p y) (go xs i e)
      where
        by : (b : Bool) → IsAt (filter p xs) x → IsAt (cond b (y ∷ filter p xs) (filter p xs)) x
        by true h = later y (filter p xs) x h
        by false h = h

pub of_flat : {A B : Type 0} (f : A → List B) (xs : List A) (y : B) → IsAt (flat_map f xs) y → (x : A) × IsAt xs x × IsAt (f x) y
of_flat f [] y h = cc
of_flat f (x ∷ xs) y h = elim (either_part (f x) (flat_map f xs) y h) [
  | inl a ↦ (x, (0, refl), a)
  | inr a ↦ (let r = of_flat f xs y a in (r.0, later x xs r.0 r.1, r.2))
]

pub into_flat : {A B : Type 0} (f : A → List B) (xs : List A) (x : A) (y : B) → IsAt xs x → IsAt (f x) y → IsAt (flat_map f xs) y
into_flat {A} {B} f xs x y h k = go xs h.0 h.1
  where
    go : (xs : List A) (i : ℕ) → slice_get xs i ≡ Some x → IsAt (flat_map f xs) y
    go [] i e = cc
    go (z ∷ xs) zero e = let s : x ≡ z = cc in in_front_part (f z) (flat_map f xs) y (subst (λ (z : A). IsAt (f z) y) s k)
    go (z ∷ xs) (suc i) e = in_back_part (f z) (flat_map f xs) y (go xs i e)

-- ---- what a search finds

pub found : {A : Type 0} (p : A → Bool) (xs : List A) (x : A) → find p xs ≡ Some x → IsAt xs x × (p x ≡ true)
found p [] x e = cc
found p (y ∷ xs) x e = go (p y) refl e (found p xs x)
  where
    go : (b : Bool) → p y ≡ b → cond b (Some y) (find p xs) ≡ Some x → (find p xs ≡ Some x → IsAt xs x × (p x ≡ true)) → IsAt (y ∷ xs) x × (p x ≡ true)
    go true is e rest = let s : y ≡ x = cc in ((0, e), ap p (sym s) ∙ is)
    go false is e rest = let r = rest e in (later y xs x r.0, r.1)

pub finds : {A : Type 0} (p : A → Bool) (xs : List A) (x : A) → IsAt xs x → p x ≡ true → (y : A) × (find p xs ≡ Some y)
finds {A} p xs x h is = go xs h.0 h.1
  where
    go : (xs : List A) (i : ℕ) → slice_get xs i ≡ Some x → (y : A) × (find p xs ≡ Some y)
    go [] i e = cc
    go (z ∷ xs) zero e =
        let s : z ≡ x = cc in
        let t : p z ≡ true = ap p s ∙ is in
        (z, rw t refl)
    go (z ∷ xs) (suc i) e = by (p z) (go xs i e)
      where
        by : (b : Bool) → (y : A) × (find p xs ≡ Some y) → (y : A) × (cond b (Some z) (find p xs) ≡ Some y)
        by true r = (z, refl)
        by false r = r

pub any_item : {A : Type 0} (p : A → Bool) (xs : List A) → list_any p xs ≡ true → (x : A) × IsAt xs x × (p x ≡ true)
any_item p [] e = cc
any_item {A} p (x ∷ xs) e = go (p x) refl e (any_item p xs)
  where
    go : (b : Bool) → p x ≡ b → (b || list_any p xs) ≡ true → (list_any p xs ≡ true → (y : A) × IsAt xs y × (p y ≡ true)) → (y : A) × IsAt (x ∷ xs) y × (p y ≡ true)
    go true is e rest = (x, (0, refl), is)
    go false is e rest = let r = rest e in (r.0, later x xs r.0 r.1, r.2)

pub each_passes : {A : Type 0} (p : A → Bool) (xs : List A) → list_all p xs ≡ true → (x : A) → IsAt xs x → p x ≡ true
each_passes {A} p xs e x h = go xs h.0 e h.1
  where
    both : (a b : Bool) → (a && b) ≡ true → (a ≡ true) × (b ≡ true)
    both true b e = (refl, e)
    both false b e = cc

    go : (xs : List A) (i : ℕ) → list_all p xs ≡ true → slice_get xs i ≡ Some x → p x ≡ true
    go [] i e h = cc
    go (y ∷ xs) zero e h = let s : y ≡ x = cc in ap p (sym s) ∙ (both (p y) (list_all p xs) e).0
    go (y ∷ xs) (suc i) e h = go xs i (both (p y) (list_all p xs) e).1 h

-- the number of what is found, and what stands there
pub placed : {A : Type 0} (p : A → Bool) (xs : List A) (n : ℕ) → position p xs ≡ Some n → (x : A) × (slice_get xs n ≡ Some x) × (p x ≡ true) × (n < length xs)
placed p [] n e = cc
placed p (x ∷ xs) n e =
    let r = position-Some p (x ∷ xs) n x e in
    (_, slice_get-get_or (x ∷ xs) n x r.0, r.1, r.0)

-- what passes is found
pub places : {A : Type 0} (p : A → Bool) (xs : List A) (x : A) → IsAt xs x → p x ≡ true → (n : ℕ) × (position p xs ≡ Some n)
places {A} p xs x h is = (position_or_len p xs, some (nat_lt (position_or_len p xs) (length xs)) (less xs h.0 h.1))
  where
    less : (xs : List A) (i : ℕ) → slice_get xs i ≡ Some x → nat_lt (position_or_len p xs) (length xs) ≡ true
    less [] i e = cc
    less (y ∷ xs) zero e =
        let s : y ≡ x = cc in
        let t : p y ≡ true = ap p s ∙ is in
        rw t (let z : 0 < length (y ∷ xs) = omega arith in grind (arith, nat_tests))
    less (y ∷ xs) (suc i) e = by (p y) (less xs i e)
      where
        by : (b : Bool) → nat_lt (position_or_len p xs) (length xs) ≡ true → nat_lt (cond (not b) (1 + position_or_len p xs) 0) (length (y ∷ xs)) ≡ true
        by true h = let z : 0 < length (y ∷ xs) = omega arith in grind (arith, nat_tests)
        by false h =
            let below : position_or_len p xs < length xs = grind (arith, nat_tests) in
            let z : 1 + position_or_len p xs < length (y ∷ xs) = omega arith in
            grind (arith, nat_tests)

    some : (b : Bool) → b ≡ true → cond b (Some (position_or_len p xs)) None ≡ Some (position_or_len p xs)
    some true e = refl
    some false e = cc

-- ---- what each gives

-- what each item of what is given comes from
abbrev Gives : {A B : Type 0} → (A → Option B) → List A → B → Type 0
Gives {A} {B} f xs y = (zs : List B) → each f xs ≡ Some zs → (j : ℕ) → slice_get zs j ≡ Some y → (w : A) × (slice_get xs j ≡ Some w) × (f w ≡ Some y)

pub from_each : {A B : Type 0} (f : A → Option B) (xs : List A) (ys : List B) → each f xs ≡ Some ys → (i : ℕ) (y : B) → slice_get ys i ≡ Some y → (x : A) × (slice_get xs i ≡ Some x) × (f x ≡ Some y)
from_each f [] [] e i y h = cc
from_each f [] (z ∷ ys) e i y h = cc
from_each {A} {B} f (x ∷ xs) ys e i y h = go (f x) refl (each f xs) refl e (λ zs are j k. from_each f xs zs are j y k)
  where
    at : (z : B) (zs : List B) → f x ≡ Some z → each f xs ≡ Some zs → (i : ℕ) → slice_get (z ∷ zs) i ≡ Some y → Gives f xs y → (w : A) × (slice_get (x ∷ xs) i ≡ Some w) × (f w ≡ Some y)
    at z zs is are zero h rest = (x, refl, is ∙ h)
    at z zs is are (suc i) h rest = rest zs are i h

    go : (o : Option B) → f x ≡ o → (os : Option (List B)) → each f xs ≡ os → in_front o os ≡ Some ys → Gives f xs y → (w : A) × (slice_get (x ∷ xs) i ≡ Some w) × (f w ≡ Some y)
    go None is os are e rest = cc
    go (Some z) is None are e rest = cc
    go (Some z) is (Some zs) are e rest = let s : ys ≡ z ∷ zs = cc in at z zs is are i (subst (λ (l : List B). slice_get l i ≡ Some y) s h) rest

pub each_many : {A B : Type 0} (f : A → Option B) (xs : List A) (ys : List B) → each f xs ≡ Some ys → length ys ≡ length xs
each_many f [] [] e = refl
each_many f [] (z ∷ ys) e = cc
each_many {A} {B} f (x ∷ xs) ys e = go (f x) (each f xs) refl e (each_many f xs)
  where
    go : (o : Option B) (os : Option (List B)) → each f xs ≡ os → in_front o os ≡ Some ys → ((zs : List B) → each f xs ≡ Some zs → length zs ≡ length xs) → length ys ≡ length (x ∷ xs)
    go None os are e rest = cc
    go (Some z) None are e rest = cc
    go (Some z) (Some zs) are e rest = let s : ys ≡ z ∷ zs = cc in ap length s ∙ ap suc (rest zs are)

-- an item of two lists side by side
pub of_zip : {A B : Type 0} (xs : List A) (ys : List B) (i : ℕ) (p : A × B) → slice_get (zip xs ys) i ≡ Some p → (slice_get xs i ≡ Some p.0) × (slice_get ys i ≡ Some p.1)
of_zip [] ys i p e = cc
of_zip (x ∷ xs) [] i p e = cc
of_zip {A} {B} (x ∷ xs) (y ∷ ys) zero p e = let s : (x, y) ≡ p = cc in (ap (λ (p : A × B). Some p.0) s, ap (λ (p : A × B). Some p.1) s)
of_zip (x ∷ xs) (y ∷ ys) (suc i) p e = of_zip xs ys i p e
