-- The attributes of a name, as a loop goes over them.
use Rattle.std.proofs.Common.{◌≡◌, ℕ, suc, ◌+◌, ◌≤◌, ◌<◌, Bool, true, false, cond, List, [], ◌∷◌, ◌++◌, length, get_or, drop, Option, Result, Ok, Err, refl, sym, ap, ◌∙◌, add-one}
use Rattle.std.specs.Prelude.{ℤ, filter}
use Rattle.std.proofs.Math.Seq.{drop-cons}
use Rattle.std.proofs.lemmas.List.{drop_all}
use Rattle.jmodel.specs.format.ClassFile.{Pool, Attribute}
use Rattle.jmodel.specs.format.ClassRules.{is_named, named_attributes}
use Rattle.jmodel.specs.format.AnnotationReading.{◌>>=◌}
use Rattle.annotations.specs.Walk.{attribute_end, attributes_end, next_end}

module _ (pool : Pool) (value : List ℕ → ℕ → Result ℕ ℕ) where
  -- attributes of two lists
  pub attributes_end-append : (xs ys : List Attribute) (found : Option ℤ) → attributes_end pool value (xs ++ ys) found ≡ (attributes_end pool value xs found >>= attributes_end pool value ys)
  unfolding attributes_end
  attributes_end-append [] ys found = refl
  attributes_end-append (x ∷ xs) ys found = by_first (λ f. attributes_end-append xs ys f) (attribute_end pool (value x.bytes) x.bytes found) where
    by_first : ((f : Option ℤ) → attributes_end pool value (xs ++ ys) f ≡ (attributes_end pool value xs f >>= attributes_end pool value ys)) → (r : Result (Option ℤ) ℕ) → (r >>= attributes_end pool value (xs ++ ys)) ≡ ((r >>= attributes_end pool value xs) >>= attributes_end pool value ys)
    by_first others (Ok f) = others f
    by_first others (Err e) = refl

  module _ (name : List ℕ) where
    first_end : (x : Attribute) (xs : List Attribute) (found : Option ℤ) → attributes_end pool value (filter (is_named pool name) (x ∷ xs)) found ≡ (next_end pool value name x found >>= attributes_end pool value (filter (is_named pool name) xs))
    unfolding attributes_end
    first_end x xs found = by_name (is_named pool name x) where
      by_name : (b : Bool) → attributes_end pool value (cond b (x ∷ filter (is_named pool name) xs) (filter (is_named pool name) xs)) found ≡ (cond b (attribute_end pool (value x.bytes) x.bytes found) (Ok found) >>= attributes_end pool value (filter (is_named pool name) xs))
      by_name true = refl
      by_name false = refl

    module _ (xs : List Attribute) (i : ℕ) (found : Option ℤ) (total : Result (Option ℤ) ℕ) (so_far : attributes_end pool value (named_attributes pool name (drop i xs)) found ≡ total) where
      opened : (x : Attribute) → i < length xs → x ≡ get_or xs i x → (next_end pool value name x found >>= attributes_end pool value (filter (is_named pool name) (drop (i + 1) xs))) ≡ total
      opened x lt is =
          let parts : drop i xs ≡ x ∷ drop (i + 1) xs = drop-cons xs i x lt ∙ ap (λ (y : Attribute). y ∷ drop (suc i) xs) (sym is) ∙ ap (λ (n : ℕ). x ∷ drop n xs) (sym (add-one i)) in
          sym (first_end x (drop (i + 1) xs) found) ∙ ap (λ (ys : List Attribute). attributes_end pool value (filter (is_named pool name) ys) found) (sym parts) ∙ so_far

      pub goes_on : (x : Attribute) → i < length xs → x ≡ get_or xs i x → (next : Option ℤ) → next_end pool value name x found ≡ Ok next → attributes_end pool value (named_attributes pool name (drop (i + 1) xs)) next ≡ total
      goes_on x lt is next h = sym (ap (λ (r : Result (Option ℤ) ℕ). r >>= attributes_end pool value (filter (is_named pool name) (drop (i + 1) xs))) h) ∙ opened x lt is

      pub ends : (x : Attribute) → i < length xs → x ≡ get_or xs i x → (e : ℕ) → next_end pool value name x found ≡ Err e → total ≡ Err e
      ends x lt is e h = sym (opened x lt is) ∙ ap (λ (r : Result (Option ℤ) ℕ). r >>= attributes_end pool value (filter (is_named pool name) (drop (i + 1) xs))) h

      pub is_done : length xs ≤ i → total ≡ Ok found
      unfolding attributes_end
      is_done le = sym so_far ∙ ap (λ (ys : List Attribute). attributes_end pool value (filter (is_named pool name) ys) found) (drop_all i xs le)
