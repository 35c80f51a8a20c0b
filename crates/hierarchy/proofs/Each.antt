-- What each item gives, as a loop collects it.
use Rattle.std.proofs.Common.{◌≡◌, Bool, true, false, cond, ◌||◌, ℕ, suc, ◌+◌, ◌≤◌, ◌<◌, List, [], ◌∷◌, ◌++◌, length, map, take, drop, reverse, get_or, Option, Some, None, Bor, refl, sym, ap, ◌∙◌, append_assoc, add-one, drop-cons, arith}
use Rattle.std.proofs.lemmas.List.{append-nil, drop_all, map_more, take_more, map-append, reverse-append, length-append}
use Rattle.std.proofs.lemmas.List.Elements.{filter_more, filter_map-append}
use Rattle.std.proofs.lemmas.List.Folds.{list_any-append}
use Rattle.std.proofs.lemmas.Grind.{flat_map-append}
use Rattle.std.specs.Prelude.{filter, if◌then◌else◌}
use Rattle.std.specs.List.{list_any, flat_map, filter_map}
use Rattle.objects.specs.linking.Each.{in_front, each}
use Rattle.hierarchy.specs.declared.outcome.BuildEnd.{BuildEnd}
use Rattle.hierarchy.specs.declared.outcome.BuildEnd.TheVariants.{Refused, NotBuilt, NoMemory}
use Rattle.hierarchy.specs.Built.{Ends}

-- what was collected before, and what is still collected
abbrev pub with_front : {A : Type 0} → List A → Option (List A) → Option (List A)
with_front front None = None
with_front front (Some xs) = Some (front ++ xs)

regroup : {A : Type 0} (front : List A) (y : A) (rest : Option (List A)) → with_front front (in_front (Some y) rest) ≡ with_front (front ++ y ∷ []) rest
regroup {A} front y (Some xs) = ap (λ (ys : List A). Some ys) (simp append_assoc)
regroup front y None = refl

front_nil : {A : Type 0} (o : Option (List A)) → with_front [] o ≡ o
front_nil (Some xs) = refl
front_nil None = refl

nothing : {A : Type 0} (front : List A) (rest : Option (List A)) → with_front front (in_front None rest) ≡ None
nothing front (Some xs) = refl
nothing front None = refl

-- the rest of a list begins with the item of its place, which is its own default
pub item_is : {A : Type 0} (xs : List A) (i : ℕ) (x : A) → i < length xs → x ≡ get_or xs i x → drop i xs ≡ x ∷ drop (i + 1) xs
item_is {A} xs i x h is =
    let one : drop i xs ≡ get_or xs i x ∷ drop (suc i) xs = drop-cons xs i x h in
    one ∙ ap (λ (y : A). y ∷ drop (suc i) xs) (sym is) ∙ ap (λ (n : ℕ). x ∷ drop n xs) (sym (add-one i))

-- or has any default
pub item_at : {A : Type 0} (xs : List A) (i : ℕ) (d : A) → i < length xs → drop i xs ≡ get_or xs i d ∷ drop (i + 1) xs
item_at xs i d h = drop-cons xs i d h ∙ ap (λ (n : ℕ). get_or xs i d ∷ drop n xs) (sym (add-one i))

module _ {A B : Type 0} (f : A → Option B) where
  pub starts : (xs : List A) → with_front [] (each f (drop 0 xs)) ≡ each f xs
  starts xs = front_nil (each f xs)

  pub goes_on : (front : List B) (xs : List A) (i : ℕ) (x : A) (y : B) (total : Option (List B)) → drop i xs ≡ x ∷ drop (i + 1) xs → f x ≡ Some y
      → with_front front (each f (drop i xs)) ≡ total → with_front (front ++ y ∷ []) (each f (drop (i + 1) xs)) ≡ total
  goes_on front xs i x y total item gives so_far =
      let one : each f (drop i xs) ≡ in_front (Some y) (each f (drop (i + 1) xs)) = ap (each f) item ∙ ap (λ (o : Option B). in_front o (each f (drop (i + 1) xs))) gives in
      sym (regroup front y (each f (drop (i + 1) xs))) ∙ sym (ap (with_front front) one) ∙ so_far

  pub ends : (e : BuildEnd) (front : List B) (xs : List A) (i : ℕ) (x : A) (total : Option (List B)) → drop i xs ≡ x ∷ drop (i + 1) xs → Ends e (f x)
      → with_front front (each f (drop i xs)) ≡ total → Ends e total
  ends (Refused r) front xs i x total item gives so_far = absurd gives
  ends NoMemory front xs i x total item gives so_far = tt
  ends NotBuilt front xs i x total item gives so_far =
      let one : each f (drop i xs) ≡ in_front None (each f (drop (i + 1) xs)) = ap (each f) item ∙ ap (λ (o : Option B). in_front o (each f (drop (i + 1) xs))) gives in
      sym so_far ∙ ap (with_front front) one ∙ nothing front (each f (drop (i + 1) xs))

  pub is_done : (front : List B) (xs : List A) (i : ℕ) (total : Option (List B)) → length xs ≤ i → with_front front (each f (drop i xs)) ≡ total → total ≡ Some front
  is_done front xs i total le so_far =
      let one : with_front front (each f (drop i xs)) ≡ Some (front ++ []) = ap (λ (ys : List A). with_front front (each f ys)) (drop_all i xs le) in
      sym so_far ∙ one ∙ ap (λ (ys : List B). Some ys) (append-nil front)

-- what is seen behind references
pub map_seen : {A B : Type 0} (f : A → B) (xs : List (Bor A)) → map (λ x. f x.now) xs ≡ map f (map (λ x. x.now) xs)
map_seen f [] = refl
map_seen {A} {B} f (x ∷ xs) = ap (λ (ys : List B). f x.now ∷ ys) (map_seen f xs)

-- one more reference
pub seen_next : {A : Type 0} (xs : List (Bor A)) (x : Bor A) (ys : List (Bor A)) → ys ≡ xs ++ x ∷ [] → map (λ y. y.now) ys ≡ map (λ y. y.now) xs ++ x.now ∷ []
seen_next {A} xs x ys h = ap (map (λ (y : Bor A). y.now)) h ∙ map-append (λ (y : Bor A). y.now) xs (x ∷ [])

-- one more item is seen
pub map_next : {A B : Type 0} (f : A → B) (xs : List A) (i : ℕ) (x : A) → i < length xs → x ≡ get_or xs i x → map f (take (i + 1) xs) ≡ map f (take i xs) ++ f x ∷ []
map_next {A} f xs i x inside is = map_more f xs i x inside ∙ ap (λ (y : A). map f (take i xs) ++ f y ∷ []) (sym is)

pub filter_next : {A : Type 0} (p : A → Bool) (xs : List A) (i : ℕ) (x : A) → i < length xs → x ≡ get_or xs i x → filter p (take (i + 1) xs) ≡ filter p (take i xs) ++ cond (p x) (x ∷ []) []
filter_next {A} p xs i x inside is = filter_more p xs i x inside ∙ ap (λ (y : A). filter p (take i xs) ++ cond (p y) (y ∷ []) []) (sym is)

pub any_next : {A : Type 0} (test : A → Bool) (xs : List A) (i : ℕ) (x : A) → i < length xs → x ≡ get_or xs i x → list_any test (take (i + 1) xs) ≡ (list_any test (take i xs) || test x)
any_next {A} test xs i x inside is =
    ap (list_any test) (take_more xs i x inside ∙ ap (λ (y : A). take i xs ++ y ∷ []) (sym is)) ∙ list_any-append test (take i xs) (x ∷ []) ∙ ap (λ (b : Bool). list_any test (take i xs) || b) (last (test x))
  where
    last : (b : Bool) → (b || false) ≡ b
    last true = refl
    last false = refl

pub flat_map_next : {A B : Type 0} (f : A → List B) (xs : List A) (i : ℕ) (x : A) → i < length xs → x ≡ get_or xs i x → flat_map f (take (i + 1) xs) ≡ flat_map f (take i xs) ++ f x
flat_map_next {A} {B} f xs i x inside is =
    ap (flat_map f) (take_more xs i x inside ∙ ap (λ (y : A). take i xs ++ y ∷ []) (sym is)) ∙ flat_map-append f (take i xs) (x ∷ []) ∙ ap (λ (l : List B). flat_map f (take i xs) ++ l) (append-nil (f x))

pub reverse_seen : {A B : Type 0} (f : A → B) (xs : List A) → map f (reverse xs) ≡ reverse (map f xs)
reverse_seen f [] = refl
reverse_seen {A} {B} f (x ∷ xs) =
    ap (map f) (reverse-append (x ∷ []) xs) ∙ map-append f (reverse xs) (x ∷ []) ∙ ap (λ (l : List B). l ++ f x ∷ []) (reverse_seen f xs) ∙ sym (reverse-append (f x ∷ []) (map f xs))

-- how many of them pass
pub count_next : {A : Type 0} (p : A → Bool) (xs : List A) (i : ℕ) (x : A) → i < length xs → x ≡ get_or xs i x → length (filter p (take (i + 1) xs)) ≡ length (filter p (take i xs)) + (if p x then 1 else 0)
count_next {A} p xs i x inside is =
    ap (λ (l : List A). length l) (filter_next p xs i x inside is) ∙ go (p x)
  where
    go : (b : Bool) → length (filter p (take i xs) ++ cond b (x ∷ []) []) ≡ length (filter p (take i xs)) + (if b then 1 else 0)
    go true = length-append (filter p (take i xs)) (x ∷ [])
    go false = length-append (filter p (take i xs)) []

pub few_pass : {A : Type 0} (p : A → Bool) (xs : List A) → length (filter p xs) ≤ length xs
few_pass p [] = omega arith
few_pass {A} p (x ∷ xs) = go (p x) (few_pass p xs)
  where
    go : (b : Bool) → length (filter p xs) ≤ length xs → length (cond b (x ∷ filter p xs) (filter p xs)) ≤ length (x ∷ xs)
    go true less = omega (arith, less)
    go false less = omega (arith, less)

pub filter_map_next : {A B : Type 0} (f : A → Option B) (xs : List A) (i : ℕ) (x : A) → i < length xs → x ≡ get_or xs i x → filter_map f (take (i + 1) xs) ≡ filter_map f (take i xs) ++ filter_map f (x ∷ [])
filter_map_next {A} {B} f xs i x inside is = ap (filter_map f) (take_more xs i x inside ∙ ap (λ (y : A). take i xs ++ y ∷ []) (sym is)) ∙ filter_map-append f (take i xs) (x ∷ [])
