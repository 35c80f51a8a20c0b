-- Values and annotations: the walk ends where reading does.
use Rattle.std.proofs.Common.{◌≡◌, ℕ, zero, suc, Bool, true, false, cond, eqb, List, ◌∷◌, Result, Ok, Err, refl, ap, ◌∙◌}
use Rattle.jmodel.specs.format.ClassFile.{Pool}
use Rattle.jmodel.specs.format.Annotation.{Pair, Annotation, Shape, Single, Enum, Nested, Array}
use Rattle.jmodel.specs.format.AnnotationRules.{is_single}
use Rattle.jmodel.specs.format.AnnotationReading.{◌>>=◌, u1_at, u2_at, text_at, items_at, counted_at, pair_at, annotation_at, single_at, enum_at, nested_at, array_at, tagged_at, shape_at, value_at}
use Rattle.annotations.specs.Walk.{steps, pair_end, pairs_end, annotation_end, values_end, single_end, enum_end, tagged_end, shape_end, value_end}

-- the place after what was read
abbrev pub ends : {A : Type 0} → Result (A × ℕ) ℕ → Result ℕ ℕ
ends (Ok x) = Ok x.1
ends (Err e) = Err e

-- what is made of the value leaves the place
pub ends_kept : {A B : Type 0} (make : A → B) (r : Result (A × ℕ) ℕ) → ends r ≡ ends (r >>= λ x. Ok (make x.0, x.1))
ends_kept make (Ok x) = refl
ends_kept make (Err e) = refl

pub after : {A B : Type 0} (r : Result (A × ℕ) ℕ) (f g : A × ℕ → Result B ℕ) → ((x : A × ℕ) → f x ≡ g x) → (r >>= f) ≡ (r >>= g)
after (Ok x) f g h = h x
after (Err e) f g h = refl

pub ends_after : {A B : Type 0} (r : Result (A × ℕ) ℕ) (f : A × ℕ → Result ℕ ℕ) (g : A × ℕ → Result (B × ℕ) ℕ) → ((x : A × ℕ) → f x ≡ ends (g x)) → (r >>= f) ≡ ends (r >>= g)
ends_after (Ok x) f g h = h x
ends_after (Err e) f g h = refl

pub items_end : {A : Type 0} (read : ℕ → Result (A × ℕ) ℕ) (step : ℕ → Result ℕ ℕ) → ((at : ℕ) → step at ≡ ends (read at)) → (n at : ℕ) → steps step n at ≡ ends (items_at read n at)
unfolding steps items_at
items_end read step same zero at = refl
items_end {A} read step same (suc n) at = ap (λ (r : Result ℕ ℕ). r >>= steps step n) (same at) ∙ by_read (λ k. items_end read step same n k) (read at) where
  by_read : ((k : ℕ) → steps step n k ≡ ends (items_at read n k)) → (r : Result (A × ℕ) ℕ) → (ends r >>= steps step n) ≡ ends (r >>= λ first. items_at read n first.1 >>= λ others. Ok (first.0 ∷ others.0, others.1))
  by_read others (Ok x) = others x.1 ∙ ends_kept (λ (ys : List A). x.0 ∷ ys) (items_at read n x.1)
  by_read others (Err e) = refl

module _ {V : Type 0} (pool : Pool) (bytes : List ℕ) (value : ℕ → Result (V × ℕ) ℕ) (step : ℕ → Result ℕ ℕ) (same : (at : ℕ) → step at ≡ ends (value at)) where
  pub pair_ends : (at : ℕ) → pair_end pool step bytes at ≡ ends (pair_at pool value bytes at)
  unfolding pair_end pair_at
  pair_ends at = ends_after (text_at pool bytes at) (λ name. step name.1) (λ name. value name.1 >>= λ v. Ok (record { name = name.0; value = v.0 }, v.1))
      (λ name. same name.1 ∙ ends_kept {B = Pair V} (λ (v : V). record { name = name.0; value = v }) (value name.1))

  pub pairs_ends : (at : ℕ) → pairs_end pool step bytes at ≡ ends (counted_at bytes (pair_at pool value bytes) at)
  unfolding pairs_end counted_at
  pairs_ends at = ends_after (u2_at bytes at) (λ count. steps (pair_end pool step bytes) count.0 count.1) (λ count. items_at (pair_at pool value bytes) count.0 count.1)
      (λ count. items_end (pair_at pool value bytes) (pair_end pool step bytes) pair_ends count.0 count.1)

  pub annotation_ends : (at : ℕ) → annotation_end pool step bytes at ≡ ends (annotation_at pool value bytes at)
  unfolding annotation_end annotation_at
  annotation_ends at = ends_after (text_at pool bytes at) (λ class. pairs_end pool step bytes class.1) (λ class. counted_at bytes (pair_at pool value bytes) class.1 >>= λ pairs. Ok (record { class = class.0; pairs = pairs.0 }, pairs.1))
      (λ class. pairs_ends class.1 ∙ ends_kept {B = Annotation V} (λ (ps : List (Pair V)). record { class = class.0; pairs = ps }) (counted_at bytes (pair_at pool value bytes) class.1))

  single_ends : (tag at : ℕ) → single_end bytes at ≡ ends {A = Shape V} (single_at tag bytes at)
  unfolding single_end single_at
  single_ends tag at = ends_after (u2_at bytes at) (λ index. Ok index.1) (λ index. Ok (Single tag index.0, index.1)) (λ index. refl)

  enum_ends : (at : ℕ) → enum_end bytes at ≡ ends {A = Shape V} (enum_at bytes at)
  unfolding enum_end enum_at
  enum_ends at = ends_after (u2_at bytes at) (λ class. u2_at bytes class.1 >>= λ name. Ok name.1) (λ class. u2_at bytes class.1 >>= λ name. Ok (Enum class.0 name.0, name.1))
      (λ class. ends_after (u2_at bytes class.1) (λ name. Ok name.1) (λ name. Ok (Enum class.0 name.0, name.1)) (λ name. refl))

  nested_ends : (at : ℕ) → annotation_end pool step bytes at ≡ ends (nested_at pool value bytes at)
  unfolding nested_at
  nested_ends at = annotation_ends at ∙ ends_kept {B = Shape V} (λ (a : Annotation V). Nested a) (annotation_at pool value bytes at)

  array_ends : (at : ℕ) → values_end step bytes at ≡ ends (array_at value bytes at)
  unfolding values_end array_at counted_at
  array_ends at =
      ends_after (u2_at bytes at) (λ count. steps step count.0 count.1) (λ count. items_at value count.0 count.1) (λ count. items_end value step same count.0 count.1)
      ∙ ends_kept {B = Shape V} (λ (vs : List V). Array vs) (u2_at bytes at >>= λ count. items_at value count.0 count.1)

  tagged_ends : (start tag at : ℕ) → tagged_end pool step bytes start tag at ≡ ends (tagged_at pool value bytes start tag at)
  unfolding tagged_end tagged_at
  tagged_ends start tag at = by_single (is_single tag) where
    by_array : (b : Bool) → cond b (values_end step bytes at) (Err start) ≡ ends (cond b (array_at value bytes at) (Err start))
    by_array true = array_ends at
    by_array false = refl

    by_nested : (b : Bool) → cond b (annotation_end pool step bytes at) (cond (eqb tag 91) (values_end step bytes at) (Err start)) ≡ ends (cond b (nested_at pool value bytes at) (cond (eqb tag 91) (array_at value bytes at) (Err start)))
    by_nested true = nested_ends at
    by_nested false = by_array (eqb tag 91)

    by_enum : (b : Bool) → cond b (enum_end bytes at) (cond (eqb tag 64) (annotation_end pool step bytes at) (cond (eqb tag 91) (values_end step bytes at) (Err start)))
        ≡ ends (cond b (enum_at bytes at) (cond (eqb tag 64) (nested_at pool value bytes at) (cond (eqb tag 91) (array_at value bytes at) (Err start))))
    by_enum true = enum_ends at
    by_enum false = by_nested (eqb tag 64)

    by_single : (b : Bool) → cond b (single_end bytes at) (cond (eqb tag 101) (enum_end bytes at) (cond (eqb tag 64) (annotation_end pool step bytes at) (cond (eqb tag 91) (values_end step bytes at) (Err start))))
        ≡ ends (cond b (single_at tag bytes at) (cond (eqb tag 101) (enum_at bytes at) (cond (eqb tag 64) (nested_at pool value bytes at) (cond (eqb tag 91) (array_at value bytes at) (Err start)))))
    by_single true = single_ends tag at
    by_single false = by_enum (eqb tag 101)

  pub shape_ends : (at : ℕ) → shape_end pool step bytes at ≡ ends (shape_at pool value bytes at)
  unfolding shape_end shape_at
  shape_ends at = ends_after (u1_at bytes at) (λ tag. tagged_end pool step bytes at tag.0 tag.1) (λ tag. tagged_at pool value bytes at tag.0 tag.1) (λ tag. tagged_ends at tag.0 tag.1)

pub value_ends : (n : ℕ) (pool : Pool) (bytes : List ℕ) (at : ℕ) → value_end n pool bytes at ≡ ends (value_at n pool bytes at)
unfolding value_end value_at
value_ends zero pool bytes at = refl
value_ends (suc n) pool bytes at = shape_ends pool bytes (value_at n pool bytes) (value_end n pool bytes) (value_ends n pool bytes) at
