-- The paths of class files under a folder, and their order.
use Rattle.std.proofs.Common.{◌≡◌, ◌<◌, ◌∙◌, ◌⊎◌, inl, inr, ℕ, zero, suc, true, List, [], ◌∷◌, length, map, ap, sym, refl, subst, Contains, String, string_bytes, arith}
use Rattle.std.specs.List.{AllPairs}
use Rattle.std.specs.List.Sorted.{IsStrictlySortedBy}
use Rattle.std.specs.declared.alloc.Global.{Global}
use Rattle.std.specs.declared.cmp.Ordering.{Ordering}
use Rattle.std.specs.declared.cmp.Ordering.TheVariants.{Less, Equal, Greater}
use Rattle.std.specs.Ordering.{nat_cmp, is_lt, ordering_reverse}
use Rattle.std.specs.Cmp.Lexicographic.{slice_cmp}
use Rattle.std.specs.String.{string_cmp}
use Rattle.std.proofs.lemmas.Cmp.{nat_list_cmp_total}
use Rattle.std.proofs.lemmas.List.{length-map, get_or-map}
use Rattle.std.proofs.lemmas.Map.Keys.{Less-from_sorted}
use Rattle.deuce_io.specs.Files.{Files}
use Rattle.objects.specs.linking.Classes.{is_before}
use Rattle.deuce.specs.Folder.{AreClassPaths}
use Rattle.deuce.specs.Listing.{seen_texts}

-- ---- in their order

-- what holds of the pairs of a list's images
pairs_map : {X Y : Type 0} (f : X → Y) (R : Y → Y → Type 0) (xs : List X) → AllPairs (λ a b. R (f a) (f b)) xs → AllPairs R (map f xs)
pairs_map f R [] h = λ i j d lt end. absurd (omega (arith, end))
pairs_map f R (x ∷ xs) h = λ i j d lt end.
    let size = length-map (x ∷ xs) f in
    let end' : j < length (x ∷ xs) = omega (arith, size, end) in
    rw (get_or-map f (x ∷ xs) i x d (omega (arith, lt, end')), get_or-map f (x ∷ xs) j x d end') (h i j x lt end')

-- texts of a set ascend
pub ascends : (texts : List (String Global)) → IsStrictlySortedBy string_cmp texts → AllPairs (λ x y. is_before x y ≡ true) (seen_texts texts)
ascends texts sorted = pairs_map string_bytes (λ a b. is_before a b ≡ true) texts (λ i j d lt end. ap is_lt (Less-from_sorted string_cmp texts i j d sorted lt end))

-- ---- there is one order

before_back : (a b : List ℕ) → is_before a b ≡ true → is_before b a ≡ true → ⊥
before_back a b h k =
    let flipped : slice_cmp nat_cmp b a ≡ ordering_reverse (slice_cmp nat_cmp a b) = nat_list_cmp_total.antisymm b a in
    go (slice_cmp nat_cmp a b) h (ap is_lt (sym flipped) ∙ k)
  where
    go : (o : Ordering) → is_lt o ≡ true → is_lt (ordering_reverse o) ≡ true → ⊥
    go Less h k = cc
    go Equal h k = cc
    go Greater h k = cc

abbrev Ascend : List (List ℕ) → Type 0
Ascend paths = AllPairs (λ x y. is_before x y ≡ true) paths

-- the first comes before each other
before_others : (x : List ℕ) (xs : List (List ℕ)) (a : List ℕ) → Ascend (x ∷ xs) → Contains xs a → is_before x a ≡ true
before_others x xs a up (k, lt, is) = subst (λ (b : List ℕ). is_before x b ≡ true) is (up 0 (suc k) a (omega arith) (omega (arith, lt)))

ascend_behind : (x : List ℕ) (xs : List (List ℕ)) → Ascend (x ∷ xs) → Ascend xs
ascend_behind x xs up = λ i j d lt end. up (suc i) (suc j) d (omega (arith, lt)) (omega (arith, end))

-- what is there is the first or another
pub first_or : (x : List ℕ) (xs : List (List ℕ)) (a : List ℕ) → Contains (x ∷ xs) a → (a ≡ x) ⊎ Contains xs a
first_or x xs a (zero, lt, is) = inl (sym is)
first_or x xs a (suc k, lt, is) = inr (k, omega (arith, lt), is)

pub as_other : (x : List ℕ) (xs : List (List ℕ)) (a : List ℕ) → Contains xs a → Contains (x ∷ xs) a
as_other x xs a (k, lt, is) = (suc k, omega (arith, lt), is)

same_first : (x y : List ℕ) (xs ys : List (List ℕ)) → Ascend (x ∷ xs) → Ascend (y ∷ ys) → Contains (y ∷ ys) x → Contains (x ∷ xs) y → x ≡ y
same_first x y xs ys up down there back =
    elim (first_or y ys x there) as (λ _. x ≡ y) [
      | inl e ↦ e
      | inr a ↦ elim (first_or x xs y back) as (λ _. x ≡ y) [
        | inl e ↦ sym e
        | inr b ↦ absurd (before_back x y (before_others x xs y up b) (before_others y ys x down a))
      ]
    ]

-- what is behind the first is behind it in the other
same_behind : (x : List ℕ) (xs ys : List (List ℕ)) (a : List ℕ) → Ascend (x ∷ xs) → Contains (x ∷ ys) a → Contains xs a → Contains ys a
same_behind x xs ys a up there h =
    elim (first_or x ys a there) as (λ _. Contains ys a) [
      | inl e ↦ let rises = subst (λ (b : List ℕ). is_before x b ≡ true) e (before_others x xs a up h) in absurd (before_back x x rises rises)
      | inr k ↦ k
    ]

-- what ascends and has the same paths is the same
one_order : (xs ys : List (List ℕ)) → Ascend xs → Ascend ys → ((a : List ℕ) → Contains xs a → Contains ys a) → ((a : List ℕ) → Contains ys a → Contains xs a) → xs ≡ ys
one_order [] [] up down there back = refl
one_order [] (y ∷ ys) up down there back = let none = back y (0, omega arith, refl) in absurd (omega (arith, none.1))
one_order (x ∷ xs) [] up down there back = let none = there x (0, omega arith, refl) in absurd (omega (arith, none.1))
one_order (x ∷ xs) (y ∷ ys) up down there back =
    let first = same_first x y xs ys up down (there x (0, omega arith, refl)) (back y (0, omega arith, refl)) in
    let Down : List ℕ → Type 0 = λ z. Ascend (z ∷ ys) in
    let In : List ℕ → List ℕ → Type 0 = λ a z. Contains (z ∷ ys) a in
    let rest = one_order xs ys (ascend_behind x xs up) (ascend_behind y ys down) (λ a h. same_behind x xs ys a up (subst (In a) (sym first) (there a (as_other x xs a h))) h)
    (λ a h. same_behind x ys xs a (subst Down (sym first) down) (back a (as_other y ys a h)) h) in
    ap (λ (z : List ℕ). z ∷ xs) first ∙ ap (λ (l : List (List ℕ)). y ∷ l) rest

-- the class files under a folder have one list of paths
pub same_paths : (told : Files) (dir : List ℕ) (xs ys : List (List ℕ)) → AreClassPaths told dir xs → AreClassPaths told dir ys → xs ≡ ys
same_paths told dir xs ys a b = one_order xs ys a.ascend b.ascend (λ n h. (b.each n).1 ((a.each n).0 h)) (λ n h. (a.each n).1 ((b.each n).0 h))
