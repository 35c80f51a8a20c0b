-- What elements of descriptors are instances of, bracket by bracket.
use Rattle.std.proofs.Common.{◌≡◌, ℕ, ◌+◌, ◌<◌, ◌≤◌, Bool, true, false, List, [], ◌∷◌, ◌++◌, map, length, take, drop, get_or, Some, None, refl, sym, ap, ◌∙◌, append_assoc, arith}
use Rattle.std.specs.Prelude.{◌==◌, slice_get}
use Rattle.std.proofs.lemmas.Bool.Decides.{nat_tests}
use Rattle.std.proofs.lemmas.List.{append-nil, take_more, drop_more, drop_all}
use Rattle.jmodel.specs.format.ClassFile.{ClassFile}
use Rattle.objects.specs.typing.TypeOrder.{object_class, is_array, without_last, descriptor_of}
use Rattle.objects.specs.linking.Layout.{class_instances, element_instances}
use Rattle.heap_layout.specs.Instances.{base_instances}

-- names behind a text
abbrev pub behind : List ℕ → List (List ℕ) → List (List ℕ)
behind front names = map (λ n. front ++ n) names

-- behind no text
pub behind_none : (names : List (List ℕ)) → behind [] names ≡ names
behind_none [] = refl
behind_none (n ∷ ns) = ap (λ (l : List (List ℕ)). n ∷ l) (behind_none ns)

module _ (cs : List ClassFile) where
  -- an element that is no array
  pub base_is : (d : List ℕ) → is_array d ≡ false → base_instances cs d ≡ element_instances cs d
  base_is [] h = refl
  base_is (c ∷ d) h = rw h refl

  -- no element, the class of an element, and another one
  pub base_none : (d : List ℕ) → slice_get d 0 ≡ None → base_instances cs d ≡ []
  base_none [] h = refl
  base_none (c ∷ d) h = absurd cc

  pub base_class : (d : List ℕ) (c : ℕ) → slice_get d 0 ≡ Some c → c ≡ 76 → base_instances cs d ≡ map descriptor_of (class_instances cs (without_last (drop 1 d)))
  base_class [] c h is = absurd cc
  base_class (b ∷ d) c h is = let one : b ≡ 76 = cc in rw one refl

  pub base_other : (d : List ℕ) (c : ℕ) → slice_get d 0 ≡ Some c → (c ≡ 76 → ⊥) → base_instances cs d ≡ d ∷ []
  base_other [] c h other = absurd cc
  base_other (b ∷ d) c h other = go (b == 76) refl
    where
      same : b ≡ c
      same = cc

      go : (t : Bool) → (b == 76) ≡ t → base_instances cs (b ∷ d) ≡ (b ∷ d) ∷ []
      go true e = let one : b ≡ 76 = grind (arith, nat_tests) in absurd (other (sym same ∙ one))
      go false e = rw e refl

  -- one bracket more
  bracket : (front d : List ℕ) → behind front (map (λ (e : List ℕ). 91 ∷ e) (element_instances cs d)) ≡ behind (front ++ 91 ∷ []) (element_instances cs d)
  bracket front d = go (element_instances cs d)
    where
      go : (es : List (List ℕ)) → behind front (map (λ (e : List ℕ). 91 ∷ e) es) ≡ behind (front ++ 91 ∷ []) es
      go [] = refl
      go (e ∷ es) = ap (λ (x : List ℕ). x ∷ behind front (map (λ (e : List ℕ). 91 ∷ e) es)) (sym (append_assoc front (91 ∷ []) e)) ∙ ap (λ (l : List (List ℕ)). ((front ++ 91 ∷ []) ++ e) ∷ l) (go es)

  array_is : (front d : List ℕ) → is_array d ≡ true → behind front (element_instances cs d) ≡ (front ++ descriptor_of object_class) ∷ behind (front ++ 91 ∷ []) (element_instances cs (drop 1 d))
  array_is front [] h = cc
  array_is front (c ∷ d) h = rw h (ap (λ (l : List (List ℕ)). (front ++ descriptor_of object_class) ∷ l) (bracket front d))

  -- the descriptors so far with one bracket more
  pub bracket_step : (d : List ℕ) (i : ℕ) (names more total : List (List ℕ)) → i < length d → is_array (drop i d) ≡ true → more ≡ names ++ (take i d ++ descriptor_of object_class) ∷ []
      → names ++ behind (take i d) (element_instances cs (drop i d)) ≡ total → more ++ behind (take (i + 1) d) (element_instances cs (drop (i + 1) d)) ≡ total
  bracket_step d i names more total inside array put so_far =
      let item : drop i d ≡ get_or d i 0 ∷ drop (i + 1) d = drop_more d i 0 inside in
      let test : is_array (get_or d i 0 ∷ drop (i + 1) d) ≡ true = sym (ap is_array item) ∙ array in
      let is : get_or d i 0 ≡ 91 = grind (arith, nat_tests) in
      let front : take (i + 1) d ≡ take i d ++ 91 ∷ [] = take_more d i 0 inside ∙ ap (λ (n : ℕ). take i d ++ n ∷ []) is in
      let one : behind (take i d) (element_instances cs (drop i d)) ≡ (take i d ++ descriptor_of object_class) ∷ behind (take (i + 1) d) (element_instances cs (drop (i + 1) d)) =
      array_is (take i d) (drop i d) array
      ∙ ap (λ (l : List ℕ). (take i d ++ descriptor_of object_class) ∷ behind (take i d ++ 91 ∷ []) (element_instances cs (drop 1 l))) item
      ∙ ap (λ (f : List ℕ). (take i d ++ descriptor_of object_class) ∷ behind f (element_instances cs (drop (i + 1) d))) (sym front) in
      ap (λ (l : List (List ℕ)). l ++ behind (take (i + 1) d) (element_instances cs (drop (i + 1) d))) put
      ∙ append_assoc names ((take i d ++ descriptor_of object_class) ∷ []) (behind (take (i + 1) d) (element_instances cs (drop (i + 1) d)))
      ∙ ap (λ (l : List (List ℕ)). names ++ l) (sym one) ∙ so_far

  -- the element that is no array comes last
  pub base_last : (d : List ℕ) (i : ℕ) (names more total : List (List ℕ)) → is_array (drop i d) ≡ false → more ≡ names ++ behind (take i d) (base_instances cs (drop i d))
      → names ++ behind (take i d) (element_instances cs (drop i d)) ≡ total → more ≡ total
  base_last d i names more total none put so_far = put ∙ ap (λ (l : List (List ℕ)). names ++ behind (take i d) l) (base_is (drop i d) none) ∙ so_far

  -- nothing comes behind the last bracket
  pub brackets_end : (d : List ℕ) (i : ℕ) (names total : List (List ℕ)) → length d ≤ i → names ++ behind (take i d) (element_instances cs (drop i d)) ≡ total → names ≡ total
  brackets_end d i names total past so_far = sym (append-nil names) ∙ sym (ap (λ (l : List ℕ). names ++ behind (take i d) (element_instances cs l)) (drop_all i d past)) ∙ so_far
