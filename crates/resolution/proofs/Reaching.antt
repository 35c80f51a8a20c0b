-- What searches upward reach, by places.
use Rattle.std.proofs.Common.{◌≡◌, ℕ, zero, suc, ◌+◌, ◌<◌, ◌≤◌, List, [], ◌∷◌, ◌++◌, length, Option, Some, None, Bool, true, false, cond, nat_lt, refl, sym, ap, ◌∙◌, arith, subst}
use Rattle.std.specs.Prelude.{is_some, option_and_then, slice_get, position}
use Rattle.std.specs.List.{find, flat_map, position_or_len}
use Rattle.std.specs.Option.{option_or}
use Rattle.std.proofs.lemmas.List.{get_or_past}
use Rattle.std.proofs.lemmas.List.Folds.{find-append}
use Rattle.std.proofs.lemmas.Grind.{flat_map-append}
use Rattle.std.proofs.lemmas.Option.{slice_get_past}
use Rattle.std.proofs.lemmas.Bool.Decides.{nat_tests}
use Rattle.jmodel.specs.format.ClassFile.{ClassFile}
use Rattle.objects.specs.linking.Superclasses.{with_above}
use Rattle.objects.specs.linking.Resolution.{names_above, all_upward}
use Rattle.hierarchy.specs.Places.{place_of}
use Rattle.resolution.specs.Ways.{FindSame, entry_at, IsTable, put_first, places_of, listed, with_place, reach, AreListed, AreReached, first_own, some_class, classes_at as at_places}
use Rattle.resolution.proofs.Finding.{same_then, same_behind, same_flat, each_same}
use Rattle.hierarchy.proofs.Standing.{stands}

-- an item inside a list is there
pub inside_there : {A : Type 0} (xs : List A) (p : ℕ) → p < length xs → (x : A) × (slice_get xs p ≡ Some x)
inside_there [] p h = absurd (omega (arith, h))
inside_there (x ∷ xs) zero h = (x, refl)
inside_there (x ∷ xs) (suc p) h = inside_there xs p (omega (arith, h))

-- there is an item at a place that was found
pub placed_there : {A : Type 0} (p : A → Bool) (xs : List A) (n : ℕ) → position p xs ≡ Some n → (x : A) × (slice_get xs n ≡ Some x)
placed_there {A} p xs n h = go (nat_lt (position_or_len p xs) (length xs)) refl h
  where
    one : (a b : ℕ) → Some a ≡ Some b → a ≡ b
    one a b e = cc

    go : (b : Bool) → nat_lt (position_or_len p xs) (length xs) ≡ b → cond b (Some (position_or_len p xs)) None ≡ Some n → (x : A) × (slice_get xs n ≡ Some x)
    go true e h =
        let inside : position_or_len p xs < length xs = grind (arith, nat_tests) in
        let there = inside_there xs (position_or_len p xs) inside in
        (there.0, ap (slice_get xs) (sym (one (position_or_len p xs) n h)) ∙ there.1)
    go false e h = absurd cc

-- ---- a search from place to place

-- a search in lists goes from one to the next
pub first_found : {A B : Type 0} (q : B → Bool) (f : A → List B) (xs : List A) → find q (flat_map f xs) ≡ first_own (λ x. find q (f x)) xs
first_found q f [] = refl
first_found {A} {B} q f (x ∷ xs) = find-append q (f x) (flat_map f xs) ∙ ap (option_or (find q (f x))) (first_found q f xs)

-- the first that is there is that of the first place where one is
first_is : {B : Type 0} (f : ℕ → Option B) (xs : List ℕ) → first_own f xs ≡ option_and_then f (find (λ p. is_some (f p)) xs)
first_is f [] = refl
first_is {B} f (x ∷ xs) = go (f x) refl (first_is f xs)
  where
    go : (o : Option B) → f x ≡ o → first_own f xs ≡ option_and_then f (find (λ p. is_some (f p)) xs) → option_or o (first_own f xs) ≡ option_and_then f (cond (is_some o) (Some x) (find (λ p. is_some (f p)) xs))
    go None e rest = rest
    go (Some y) e rest = sym e

-- places that find the same have the same first
pub first_same : {B : Type 0} (f : ℕ → Option B) (xs ys : List ℕ) → FindSame xs ys → first_own f xs ≡ first_own f ys
first_same f xs ys h = first_is f xs ∙ ap (option_and_then f) (h (λ p. is_some (f p))) ∙ sym (first_is f ys)

-- lists of lists of lists, joined from within or from without
pub flat_flat : {A B C : Type 0} (f : B → List C) (g : A → List B) (xs : List A) → flat_map f (flat_map g xs) ≡ flat_map (λ x. flat_map f (g x)) xs
flat_flat f g [] = refl
flat_flat {A} {B} {C} f g (x ∷ xs) = flat_map-append f (g x) (flat_map g xs) ∙ ap (λ (l : List C). flat_map f (g x) ++ l) (flat_flat f g xs)

-- ---- classes and their places

module _ (cs : List ClassFile) where
  -- the classes at places
  abbrev classes_at : List ℕ → List ClassFile
  classes_at ps = at_places cs ps

  -- what is reached from a place, if there is one
  abbrev pub reach_from : ℕ → Option ℕ → List ℕ
  reach_from n None = []
  reach_from n (Some p) = reach cs n p

  -- what stands upward from names, where it is known of each
  flat_reached : (n : ℕ) → ((name : List ℕ) → all_upward cs n name ≡ classes_at (reach_from n (place_of cs name)))
      → (names : List (List ℕ)) → flat_map (all_upward cs n) names ≡ classes_at (flat_map (reach cs n) (places_of cs names))
  flat_reached n h [] = refl
  flat_reached n h (x ∷ xs) = go (place_of cs x) (h x) (flat_reached n h xs)
    where
      go : (o : Option ℕ) → all_upward cs n x ≡ classes_at (reach_from n o) → flat_map (all_upward cs n) xs ≡ classes_at (flat_map (reach cs n) (places_of cs xs))
          → all_upward cs n x ++ flat_map (all_upward cs n) xs ≡ classes_at (flat_map (reach cs n) (put_first o (places_of cs xs)))
      go None e rest = ap (λ (l : List ClassFile). l ++ flat_map (all_upward cs n) xs) e ∙ rest
      go (Some p) e rest =
          ap (λ (l : List ClassFile). l ++ flat_map (all_upward cs n) xs) e ∙ ap (λ (l : List ClassFile). classes_at (reach cs n p) ++ l) rest
          ∙ sym (flat_map-append (λ p. some_class (slice_get cs p)) (reach cs n p) (flat_map (reach cs n) (places_of cs xs)))

  -- what stands upward from a name stands at the places that are reached from its own
  pub all_reached : (n : ℕ) (name : List ℕ) → all_upward cs n name ≡ classes_at (reach_from n (place_of cs name))
  all_reached zero name = go (place_of cs name)
    where
      go : (o : Option ℕ) → [] ≡ classes_at (reach_from zero o)
      go None = refl
      go (Some p) = refl
  all_reached (suc n) name = ap (with_above (λ c. flat_map (all_upward cs n) (names_above c))) (sym (stands cs name)) ∙ go (place_of cs name) (flat_reached n (all_reached n))
    where
      at : (p : ℕ) (o : Option ClassFile) → slice_get cs p ≡ o → ((names : List (List ℕ)) → flat_map (all_upward cs n) names ≡ classes_at (flat_map (reach cs n) (places_of cs names)))
          → with_above (λ c. flat_map (all_upward cs n) (names_above c)) o ≡ classes_at (with_place p (λ c. flat_map (reach cs n) (places_of cs (names_above c))) o)
      at p None e flat = refl
      at p (Some c) e flat =
          ap (λ (l : List ClassFile). c ∷ l) (flat (names_above c))
          ∙ sym (ap (λ (o : Option ClassFile). some_class o ++ classes_at (flat_map (reach cs n) (places_of cs (names_above c)))) e)

      go : (o : Option ℕ) → ((names : List (List ℕ)) → flat_map (all_upward cs n) names ≡ classes_at (flat_map (reach cs n) (places_of cs names)))
          → with_above (λ c. flat_map (all_upward cs n) (names_above c)) (option_and_then (slice_get cs) o) ≡ classes_at (reach_from (suc n) o)
      go None flat = refl
      go (Some p) flat = at p (slice_get cs p) refl flat

  -- what stands upward from names
  pub all_above : (n : ℕ) (names : List (List ℕ)) → flat_map (all_upward cs n) names ≡ classes_at (flat_map (reach cs n) (places_of cs names))
  all_above n names = flat_reached n (all_reached n) names

  -- ---- one step more

  -- what is reached in one step more
  pub next_reached : (n : ℕ) (direct table next : List (List ℕ)) → length cs ≡ length direct → AreListed cs names_above direct → AreReached cs n table
      → IsTable (λ p. p ∷ flat_map (entry_at table) (entry_at direct p)) (length direct) next → AreReached cs (suc n) next
  next_reached n direct table next many are so_far is p = go (nat_lt p (length cs)) refl
    where
      above : ClassFile → List ℕ
      above c = flat_map (reach cs n) (places_of cs (names_above c))

      go : (b : Bool) → nat_lt p (length cs) ≡ b → FindSame (entry_at next p) (with_place p (λ c. flat_map (reach cs n) (places_of cs (names_above c))) (slice_get cs p))
      go true e =
          let inside : p < length cs = grind (arith, nat_tests) in
          let there = inside_there cs p inside in
          let direct_is = subst (λ (o : Option ClassFile). FindSame (entry_at direct p) (listed cs names_above o)) there.1 (are p) in
          let put = is.each p (omega (arith, inside, many)) in
          let step = same_then (flat_map (entry_at table) (entry_at direct p)) (flat_map (reach cs n) (entry_at direct p)) (flat_map (reach cs n) (places_of cs (names_above there.0)))
          (each_same (entry_at table) (reach cs n) (entry_at direct p) so_far) (same_flat (reach cs n) (entry_at direct p) (places_of cs (names_above there.0)) direct_is) in
          subst (λ (o : Option ClassFile). FindSame (entry_at next p) (with_place p (λ c. flat_map (reach cs n) (places_of cs (names_above c))) o)) (sym there.1)
          (same_then (entry_at next p) (p ∷ flat_map (entry_at table) (entry_at direct p)) (p ∷ flat_map (reach cs n) (places_of cs (names_above there.0))) put (same_behind p (flat_map (entry_at table) (entry_at direct p)) (flat_map (reach cs n) (places_of cs (names_above there.0))) step))
      go false e =
          let outside : length cs ≤ p = grind (arith, nat_tests) in
          let none : entry_at next p ≡ [] = get_or_past next p [] (omega (arith, is.many, many, outside)) in
          subst (λ (o : Option ClassFile). FindSame (entry_at next p) (with_place p (λ c. flat_map (reach cs n) (places_of cs (names_above c))) o)) (sym (slice_get_past cs p outside)) (λ test. ap (find test) none)

  -- where one step more changes no list, no number of steps does
  pub settled : (n : ℕ) (direct table next : List (List ℕ)) → length cs ≡ length direct → AreListed cs names_above direct → AreReached cs n table
      → IsTable (λ p. p ∷ flat_map (entry_at table) (entry_at direct p)) (length direct) next → ((p : ℕ) → entry_at next p ≡ entry_at table p) → (k : ℕ) → AreReached cs (n + k) table
  settled n direct table next many are so_far is same zero = let none : n ≡ n + 0 = omega arith in subst (λ (m : ℕ). AreReached cs m table) none so_far
  settled n direct table next many are so_far is same (suc k) =
      let before : AreReached cs (n + k) table = settled n direct table next many are so_far is same k in
      let after : AreReached cs (suc (n + k)) next = next_reached (n + k) direct table next many are before is in
      let count : suc (n + k) ≡ n + suc k = omega arith in
      subst (λ (m : ℕ). AreReached cs m table) count (λ p. subst (λ (l : List ℕ). FindSame l (reach cs (suc (n + k)) p)) (same p) (after p))
