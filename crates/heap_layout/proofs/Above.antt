-- What stands above classes: the name above the last of them, and the interfaces that they list.
use Rattle.std.proofs.Common.{◌≡◌, ℕ, zero, suc, ◌+◌, ◌-◌, ◌<◌, Bool, true, false, ◌||◌, ◌&&◌, cond, List, [], ◌∷◌, ◌++◌, length, drop, get_or, Option, Some, None, Bor, refl, sym, ap, ◌∙◌, append_assoc, arith}
use Rattle.std.specs.Prelude.{bytes_eq, filter, map, slice_get, is_some}
use Rattle.std.specs.List.{list_any, find, flat_map}
use Rattle.std.proofs.lemmas.List.{append-nil, drop_more}
use Rattle.std.proofs.lemmas.List.Elements.{filter-append}
use Rattle.std.proofs.lemmas.List.Folds.{list_any-append}
use Rattle.std.proofs.lemmas.Grind.{flat_map-append}
use Rattle.jmodel.specs.format.ClassFile.{ClassFile}
use Rattle.objects.specs.linking.Superclasses.{class_named, super_name, with_above}
use Rattle.objects.specs.typing.TypeOrder.{is_class_name}
use Rattle.objects.specs.linking.Resolution.{interface_names, names_above, all_upward, ancestry}
use Rattle.objects.specs.linking.Layout.{above_last, in_text_order}
use Rattle.resolution.specs.Ways.{some_class, classes_at, IsWay}
use Rattle.heap_layout.proofs.Ascending.{one_text_order}

-- ---- the name above the last class

-- it is that of the class above the last one
pub last_seen : (n : List ℕ) (cs : List (Bor ClassFile)) (c : Bor ClassFile) → slice_get cs (length cs - 1) ≡ Some c → above_last n (map (λ k. k.now) cs) ≡ super_name c.now
last_seen n [] c h = absurd cc
last_seen n (d ∷ []) c h = ap (λ (k : Bor ClassFile). super_name k.now) (the_same d c h)
  where
    the_same : (x y : Bor ClassFile) → Some x ≡ Some y → x ≡ y
    the_same x y e = cc
last_seen n (d ∷ e ∷ cs) c h =
    let k : length (d ∷ e ∷ cs) - 1 ≡ suc (length (e ∷ cs) - 1) = omega arith in
    last_seen (super_name d.now) (e ∷ cs) c (sym (ap (slice_get (d ∷ e ∷ cs)) k) ∙ h)

-- ---- the interfaces that classes list

abbrev pub interfaces_of : List ClassFile → List (List ℕ)
interfaces_of cs = filter is_class_name (flat_map interface_names cs)

-- nothing stands above a name that no class has
pub none_upward : (cs : List ClassFile) (name : List ℕ) → class_named cs name ≡ None → ancestry cs name ≡ []
none_upward cs name none = go (length cs)
  where
    go : (n : ℕ) → all_upward cs n name ≡ []
    go zero = refl
    go (suc n) = ap (with_above (λ c. flat_map (all_upward cs n) (names_above c))) none

-- some item passes of those that items give
any_flat : {A B : Type 0} (test : B → Bool) (f : A → List B) (xs : List A) → list_any test (flat_map f xs) ≡ list_any (λ x. list_any test (f x)) xs
any_flat test f [] = refl
any_flat test f (x ∷ xs) = list_any-append test (f x) (flat_map f xs) ∙ ap (λ (b : Bool). list_any test (f x) || b) (any_flat test f xs)

any_filter : {A : Type 0} (test p : A → Bool) (xs : List A) → list_any test (filter p xs) ≡ list_any (λ x. p x && test x) xs
any_filter test p [] = refl
any_filter {A} test p (x ∷ xs) = go (p x) (any_filter test p xs)
  where
    go : (b : Bool) → list_any test (filter p xs) ≡ list_any (λ x. p x && test x) xs
        → list_any test (cond b (x ∷ filter p xs) (filter p xs)) ≡ ((b && test x) || list_any (λ x. p x && test x) xs)
    go true next = ap (λ (b : Bool). test x || b) next
    go false next = next

any_found : (test : ℕ → Bool) (ps : List ℕ) → list_any test ps ≡ is_some (find test ps)
any_found test [] = refl
any_found test (p ∷ ps) = go (test p) (any_found test ps)
  where
    go : (b : Bool) → list_any test ps ≡ is_some (find test ps) → (b || list_any test ps) ≡ is_some (cond b (Some p) (find test ps))
    go true next = refl
    go false next = next

module _ (cs : List ClassFile) where
  -- whether a class at a place lists an interface of a name
  abbrev lists : List ℕ → ℕ → Bool
  lists q p = list_any (λ c. list_any (λ n. is_class_name n && bytes_eq q n) (interface_names c)) (some_class (slice_get cs p))

  any_listed : (q : List ℕ) (ps : List ℕ) → list_any (bytes_eq q) (interfaces_of (classes_at cs ps)) ≡ list_any (lists q) ps
  any_listed q ps =
      any_filter (bytes_eq q) is_class_name (flat_map interface_names (classes_at cs ps))
      ∙ any_flat (λ n. is_class_name n && bytes_eq q n) interface_names (classes_at cs ps)
      ∙ any_flat (λ c. list_any (λ n. is_class_name n && bytes_eq q n) (interface_names c)) (λ p. some_class (slice_get cs p)) ps

  -- places that find the same have the same interfaces
  pub one_list : (ps : List ℕ) (classes : List ClassFile) → IsWay cs ps classes → in_text_order (interfaces_of (classes_at cs ps)) ≡ in_text_order (interfaces_of classes)
  one_list ps classes way =
      one_text_order (interfaces_of (classes_at cs ps)) (interfaces_of (classes_at cs way.all))
      (λ q. any_listed q ps ∙ any_found (lists q) ps ∙ ap (λ (o : Option ℕ). is_some o) (way.same (lists q)) ∙ sym (any_found (lists q) way.all) ∙ sym (any_listed q way.all))
      ∙ ap (λ (l : List ClassFile). in_text_order (interfaces_of l)) way.are

  interfaces-append : (ds es : List ClassFile) → interfaces_of (ds ++ es) ≡ interfaces_of ds ++ interfaces_of es
  interfaces-append ds es = ap (filter is_class_name) (flat_map-append interface_names ds es) ∙ filter-append is_class_name (flat_map interface_names ds) (flat_map interface_names es)

  one_more : (o : Option ClassFile) (ps : List ℕ) (i : ℕ) → i < length ps → slice_get cs (get_or ps i 0) ≡ o
      → interfaces_of (classes_at cs (drop i ps)) ≡ interfaces_of (some_class o) ++ interfaces_of (classes_at cs (drop (i + 1) ps))
  one_more o ps i inside is =
      ap (λ (qs : List ℕ). interfaces_of (classes_at cs qs)) (drop_more ps i 0 inside)
      ∙ interfaces-append (some_class (slice_get cs (get_or ps i 0))) (classes_at cs (drop (i + 1) ps))
      ∙ ap (λ (o : Option ClassFile). interfaces_of (some_class o) ++ interfaces_of (classes_at cs (drop (i + 1) ps))) is

  -- the names so far with those that one more class lists
  pub class_listed : (c : ClassFile) (ps : List ℕ) (i : ℕ) (before more total : List (List ℕ)) → i < length ps → slice_get cs (get_or ps i 0) ≡ Some c → more ≡ before ++ filter is_class_name (interface_names c)
      → before ++ interfaces_of (classes_at cs (drop i ps)) ≡ total → more ++ interfaces_of (classes_at cs (drop (i + 1) ps)) ≡ total
  class_listed c ps i before more total inside is put so_far =
      let rest = interfaces_of (classes_at cs (drop (i + 1) ps)) in
      let own = filter is_class_name (interface_names c) in
      ap (λ (l : List (List ℕ)). l ++ rest) put ∙ append_assoc before own rest
      ∙ ap (λ (l : List (List ℕ)). before ++ (filter is_class_name l ++ rest)) (sym (append-nil (interface_names c)))
      ∙ ap (λ (l : List (List ℕ)). before ++ l) (sym (one_more (Some c) ps i inside is)) ∙ so_far

  -- no class stands at the place
  pub none_listed : (ps : List ℕ) (i : ℕ) (before total : List (List ℕ)) → i < length ps → slice_get cs (get_or ps i 0) ≡ None → before ++ interfaces_of (classes_at cs (drop i ps)) ≡ total
      → before ++ interfaces_of (classes_at cs (drop (i + 1) ps)) ≡ total
  none_listed ps i before total inside is so_far = ap (λ (l : List (List ℕ)). before ++ l) (sym (one_more None ps i inside is)) ∙ so_far
