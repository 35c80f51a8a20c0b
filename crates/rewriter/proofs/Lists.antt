-- Lists: items of a rest, lists side by side, and what holds of each item.
use Rattle.std.proofs.Common.{◌≡◌, ℕ, zero, suc, ◌+◌, ◌<◌, ◌≤◌, Bool, true, false, List, [], ◌∷◌, ◌++◌, length, map, take, drop, get_or, Some, Bor, refl, sym, ap, subst, ◌∙◌, arith}
use Rattle.std.specs.Prelude.{filter, slice_get, zip}
use Rattle.std.specs.List.{AllByRecursion, AllZip, prefix_len}
use Rattle.std.proofs.Math.ListN.{get_or-map}
use Rattle.std.proofs.lemmas.List.{length-map, length-append}
use Rattle.std.proofs.lemmas.Slice.Zip.{length-zip, get_or-zip}
use Rattle.member_code.proofs.Grow.{item_is}

-- ---- tests

pub filter_keeps : {A : Type 0} (p : A → Bool) (x : A) (xs : List A) → p x ≡ true → filter p (x ∷ xs) ≡ x ∷ filter p xs
filter_keeps p x xs e = rw e refl

pub filter_drops : {A : Type 0} (p : A → Bool) (x : A) (xs : List A) → p x ≡ false → filter p (x ∷ xs) ≡ filter p xs
filter_drops p x xs e = rw e refl

pub fewer : {A : Type 0} (p : A → Bool) (xs : List A) → length (filter p xs) ≤ length xs
fewer p [] = omega arith
fewer {A} p (x ∷ xs) = go (p x) refl (fewer p xs)
  where
    go : (b : Bool) → p x ≡ b → length (filter p xs) ≤ length xs → length (filter p (x ∷ xs)) ≤ length (x ∷ xs)
    go true e h = let list = filter_keeps p x xs e in omega (arith, ap length list, h)
    go false e h = let list = filter_drops p x xs e in omega (arith, ap length list, h)

-- those that pass a test pass it
pub all_passing : {A : Type 0} (p : A → Bool) (xs : List A) → AllByRecursion (λ (x : A). p x ≡ true) (filter p xs)
all_passing p [] = tt
all_passing {A} p (x ∷ xs) = go (p x) refl (all_passing p xs)
  where
    go : (b : Bool) → p x ≡ b → AllByRecursion (λ (y : A). p y ≡ true) (filter p xs) → AllByRecursion (λ (y : A). p y ≡ true) (filter p (x ∷ xs))
    go true e rest = subst (AllByRecursion (λ (y : A). p y ≡ true)) (sym (filter_keeps p x xs e)) (e, rest)
    go false e rest = subst (AllByRecursion (λ (y : A). p y ≡ true)) (sym (filter_drops p x xs e)) rest

-- ---- what holds of each

pub all_as : {A : Type 0} (Q R : A → Type 0) → ((x : A) → Q x → R x) → (xs : List A) → AllByRecursion Q xs → AllByRecursion R xs
all_as Q R f [] h = tt
all_as Q R f (x ∷ xs) h = (f x h.0, all_as Q R f xs h.1)

pub all_both : {A : Type 0} (P Q R : A → Type 0) → ((x : A) → P x → Q x → R x) → (xs : List A) → AllByRecursion P xs → AllByRecursion Q xs → AllByRecursion R xs
all_both P Q R f [] p q = tt
all_both P Q R f (x ∷ xs) p q = (f x p.0 q.0, all_both P Q R f xs p.1 q.1)

pub all_append : {A : Type 0} (Q : A → Type 0) (xs ys : List A) → AllByRecursion Q xs → AllByRecursion Q ys → AllByRecursion Q (xs ++ ys)
all_append Q [] ys h k = k
all_append Q (x ∷ xs) ys h k = (h.0, all_append Q xs ys h.1 k)

-- of each item of nothing
pub all_true : {A : Type 0} (Q : A → Type 0) → ((x : A) → Q x) → (xs : List A) → AllByRecursion Q xs
all_true Q f [] = tt
all_true Q f (x ∷ xs) = (f x, all_true Q f xs)

-- what holds of each item holds of the first of the rest
pub of_rest : {A : Type 0} (Q : A → Type 0) (i : ℕ) (xs rest : List A) (x : A) → AllByRecursion Q xs → drop i xs ≡ x ∷ rest → Q x
of_rest Q zero [] rest x h e = absurd cc
of_rest Q (suc i) [] rest x h e = absurd cc
of_rest {A} Q zero (y ∷ ys) rest x h e = let s : y ≡ x = cc in subst Q s h.0
of_rest Q (suc i) (y ∷ ys) rest x h e = of_rest Q i ys rest x h.1 e

-- how many of the first pass a test, where those of a front do and none of the rest does
pub prefix_is : {A : Type 0} (p : A → Bool) (xs ys : List A) → AllByRecursion (λ (x : A). p x ≡ true) xs → AllByRecursion (λ (x : A). p x ≡ false) ys → prefix_len p (xs ++ ys) ≡ length xs
prefix_is p [] [] h k = refl
prefix_is p [] (y ∷ ys) h k = rw k.0 refl
prefix_is p (x ∷ xs) ys h k = let e = prefix_is p xs ys h.1 k in rw h.0 (omega (arith, e))

-- ---- fronts

-- the front of a list, and what is behind it
pub take_front : {A : Type 0} (xs ys : List A) (n : ℕ) → n ≡ length xs → take n (xs ++ ys) ≡ xs
take_front {A} xs ys n e = ap (λ (k : ℕ). take k (xs ++ ys)) e ∙ go xs
  where
    none : (zs : List A) → take 0 zs ≡ []
    none [] = refl
    none (z ∷ zs) = refl

    go : (us : List A) → take (length us) (us ++ ys) ≡ us
    go [] = none ys
    go (u ∷ us) = let l : length (u ∷ us) ≡ suc (length us) = omega arith in ap (λ (n : ℕ). take n (u ∷ (us ++ ys))) l ∙ ap (λ (l : List A). u ∷ l) (go us)

pub drop_front : {A : Type 0} (xs ys : List A) (n : ℕ) → n ≡ length xs → drop n (xs ++ ys) ≡ ys
drop_front {A} xs ys n e = ap (λ (k : ℕ). drop k (xs ++ ys)) e ∙ go xs
  where
    go : (us : List A) → drop (length us) (us ++ ys) ≡ ys
    go [] = refl
    go (u ∷ us) = let l : length (u ∷ us) ≡ suc (length us) = omega arith in ap (λ (n : ℕ). drop n (u ∷ (us ++ ys))) l ∙ go us

-- the front of a list, taken off
pub taken_off : {A : Type 0} (xs own more : List A) (n : ℕ) → xs ≡ own ++ more → n ≡ length own → (take n xs ≡ own) × (drop n xs ≡ more)
taken_off {A} xs own more n is len = (ap (take n) is ∙ take_front own more n len, ap (drop n) is ∙ drop_front own more n len)

pub length_more : {A : Type 0} (xs : List A) (x : A) → length (xs ++ x ∷ []) ≡ length xs + 1
length_more xs x = length-append xs (x ∷ [])

-- ---- places

pub front_at : {A : Type 0} (xs ys : List A) (j : ℕ) (x : A) → slice_get xs j ≡ Some x → slice_get (xs ++ ys) j ≡ Some x
front_at [] ys j x e = cc
front_at (y ∷ xs) ys zero x e = e
front_at (y ∷ xs) ys (suc j) x e = front_at xs ys j x e

pub behind_front : {A : Type 0} (xs ys : List A) (j : ℕ) → slice_get (xs ++ ys) (length xs + j) ≡ slice_get ys j
behind_front {A} [] ys j = let z : length {A = A} [] + j ≡ j = omega arith in ap (slice_get ys) z
behind_front {A} (x ∷ xs) ys j = let z : length (x ∷ xs) + j ≡ suc (length xs + j) = omega arith in ap (slice_get (x ∷ (xs ++ ys))) z ∙ behind_front xs ys j

-- an item that stands at a place by index
pub item_at : {A : Type 0} (xs : List A) (i : ℕ) (x : A) → i < length xs → x ≡ get_or xs i x → slice_get xs i ≡ Some x
item_at [] i x h e = absurd (omega (arith, h))
item_at {A} (y ∷ xs) zero x h e = ap (λ (z : A). Some z) (sym e)
item_at (y ∷ xs) (suc i) x h e = item_at xs i x (omega (arith, h)) e

pub place_inside : {A : Type 0} (xs : List A) (i : ℕ) (x : A) → slice_get xs i ≡ Some x → i < length xs
place_inside [] i x e = cc
place_inside (y ∷ xs) zero x e = omega arith
place_inside (y ∷ xs) (suc i) x e = let h = place_inside xs i x e in omega (arith, h)

pub there : {A : Type 0} (xs : List A) (i : ℕ) → i < length xs → (x : A) × (slice_get xs i ≡ Some x)
there [] i h = absurd (omega (arith, h))
there (x ∷ xs) zero h = (x, refl)
there (x ∷ xs) (suc i) h = there xs i (omega (arith, h))

-- an item behind a reference
pub seen_item : {A : Type 0} (xs : List (Bor A)) (i : ℕ) (x : Bor A) → i < length xs → x ≡ get_or xs i x → drop i (map (λ m. m.now) xs) ≡ x.now ∷ drop (i + 1) (map (λ m. m.now) xs)
seen_item {A} xs i x h is =
    let same : length (map (λ (m : Bor A). m.now) xs) ≡ length xs = length-map _ _ in
    let at : get_or (map (λ (m : Bor A). m.now) xs) i x.now ≡ x.now = get_or-map (λ (m : Bor A). m.now) xs i x ∙ ap (λ (m : Bor A). m.now) (sym is) in
    item_is (map (λ (m : Bor A). m.now) xs) i x.now (omega (arith, h, same)) (sym at)

-- ---- lists side by side

pub zip_item : {A B : Type 0} (xs : List A) (ys : List B) (n : ℕ) (x : A) (y : B) → n < length xs → n < length ys → x ≡ get_or xs n x → y ≡ get_or ys n y → drop n (zip xs ys) ≡ (x, y) ∷ drop (n + 1) (zip xs ys)
zip_item {A} {B} xs ys n x y left right told is =
    let pair : get_or (zip xs ys) n (x, y) ≡ (get_or xs n x, get_or ys n y) = get_or-zip xs ys n (x, y) left right in
    let whole : get_or (zip xs ys) n (x, y) ≡ (x, y) = pair ∙ ap (λ (b : B). (get_or xs n x, b)) (sym is) ∙ ap (λ (a : A). (a, y)) (sym told) in
    item_is (zip xs ys) n (x, y) (omega (arith, length-zip xs ys, left, right)) (sym whole)

take-none : {A : Type 0} (zs : List A) → take 0 zs ≡ []
take-none [] = refl
take-none (z ∷ zs) = refl

pub drop-none : {A : Type 0} (zs : List A) → drop 0 zs ≡ zs
drop-none [] = refl
drop-none (z ∷ zs) = refl

-- lists whose items belong to one another, place by place
pub all_zipped : {A B : Type 0} (R : A → B → Type 0) (xs : List A) (ys : List B) → length ys ≡ length xs → ((i : ℕ) (y : B) → slice_get ys i ≡ Some y → (x : A) × (slice_get xs i ≡ Some x) × R x y) → AllZip R xs ys
all_zipped R [] [] e f = tt
all_zipped R [] (y ∷ ys) e f = absurd (omega (arith, e))
all_zipped R (x ∷ xs) [] e f = absurd (omega (arith, e))
all_zipped {A} {B} R (x ∷ xs) (y ∷ ys) e f =
    let t = f 0 y refl in
    let s : x ≡ t.0 = (let u = t.1 in cc) in
    (subst (λ (a : A). R a y) (sym s) t.2, all_zipped R xs ys (omega (arith, e)) (λ i z g. f (suc i) z g))

-- a list whose first items belong to those of another in two parts falls into two
pub zipped_parts : {A B : Type 0} (R : A → B → Type 0) (xs ys : List A) (zs : List B) → AllZip R (xs ++ ys) zs → AllZip R xs (take (length xs) zs) × AllZip R ys (drop (length xs) zs)
zipped_parts {A} {B} R [] ys zs h =
    let z : 0 ≡ length {A = A} [] = omega arith in
    (subst (λ (n : ℕ). AllZip R [] (take n zs)) z (subst (AllZip R []) (sym (take-none zs)) tt), subst (λ (n : ℕ). AllZip R ys (drop n zs)) z (subst (AllZip R ys) (sym (drop-none zs)) h))
zipped_parts R (x ∷ xs) ys [] h = absurd h
zipped_parts R (x ∷ xs) ys (z ∷ zs) h = let r = zipped_parts R xs ys zs h.1 in ((h.0, r.0), r.1)

pub zipped_at : {A B : Type 0} (R : A → B → Type 0) (xs : List A) (zs : List B) (i : ℕ) (x : A) → AllZip R xs zs → slice_get xs i ≡ Some x → (z : B) × (slice_get zs i ≡ Some z) × R x z
zipped_at R [] zs i x h e = cc
zipped_at R (y ∷ xs) [] i x h e = absurd h
zipped_at {A} R (y ∷ xs) (z ∷ zs) zero x h e = let s : y ≡ x = cc in (z, refl, subst (λ (a : A). R a z) s h.0)
zipped_at R (y ∷ xs) (z ∷ zs) (suc i) x h e = zipped_at R xs zs i x h.1 e
