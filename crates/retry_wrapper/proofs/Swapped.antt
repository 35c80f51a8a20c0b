-- A method with another Code: its Code is that, and its mark stays.
use Rattle.std.proofs.Common.{◌≡◌, ℕ, Bool, true, false, List, [], ◌∷◌, ◌++◌, Option, Some, Ok, refl, sym, ap, ◌∙◌, ℤ}
use Rattle.std.specs.Prelude.{codes, find, filter, map, option_and_then, if◌then◌else◌, pos}
use Rattle.std.specs.List.{AllByRecursion, list_any}
use Rattle.jmodel.specs.format.ClassFile.{Attribute, Member, Pool}
use Rattle.jmodel.specs.format.Pool.{utf8}
use Rattle.jmodel.specs.format.ClassRules.{IsAttribute, is_named, named_attributes, same_text}
use Rattle.jmodel.specs.format.ClassReading.{code_of}
use Rattle.jmodel.specs.format.AnnotationReading.{◌>>=◌, value_at}
use Rattle.jmodel.specs.format.Mark.{annotation_attributes, all_annotations, marked_retries, retries_in, answer}
use Rattle.objects.specs.linking.Code.{attempts_in, mark_retries, is_initialiser, retries_of}
use Rattle.member_code.proofs.Grown.{Grown, the_some, utf8_grown}
use Rattle.member_code.proofs.Added.{same_text_is}
use Rattle.retry_wrapper.specs.Wrappers.{with_bytes, with_code}

-- a text names the same in a pool and a longer one
named_same : (pool Z : Pool) → Grown pool Z → (name : List ℕ) (a : Attribute) → IsAttribute pool a → is_named Z name a ≡ is_named pool name a
named_same pool Z G name a h =
    let t = the_some (utf8 pool a.name) h.named in
    let here = t.1 in
    let there = utf8_grown pool Z G a.name t.0 t.1 in
    rw (here, there) refl

filter_keeps : {A : Type 0} (p : A → Bool) (x : A) (xs : List A) → p x ≡ true → filter p (x ∷ xs) ≡ x ∷ filter p xs
filter_keeps p x xs e = rw e refl

filter_drops : {A : Type 0} (p : A → Bool) (x : A) (xs : List A) → p x ≡ false → filter p (x ∷ xs) ≡ filter p xs
filter_drops p x xs e = rw e refl

abbrev named_so : ℕ → List ℕ → Attribute
named_so name bytes = record { name = name; bytes = bytes }

-- the pools before, where the code was made, and after
module _ (pool made Z : Pool) (G : Grown pool made) (H : Grown pool Z) (bytes : List ℕ) where
  made_same : (a : Attribute) → IsAttribute pool a → is_named made (codes "Code") a ≡ is_named Z (codes "Code") a
  made_same a h = named_same pool made G (codes "Code") a h ∙ sym (named_same pool Z H (codes "Code") a h)

  pub code_swapped : (xs : List Attribute) → AllByRecursion (IsAttribute pool) xs → list_any (is_named pool (codes "Code")) xs ≡ true
      → option_and_then (λ (a : Attribute). code_of Z a.bytes) (find (is_named Z (codes "Code")) (map (with_bytes made bytes) xs)) ≡ code_of Z bytes
  code_swapped [] L h = cc
  code_swapped (a ∷ xs) L h = go (is_named Z (codes "Code") a) refl (λ t. code_swapped xs L.1 t)
    where
      old : is_named pool (codes "Code") a ≡ is_named Z (codes "Code") a
      old = sym (named_same pool Z H (codes "Code") a L.0)

      go : (b : Bool) → is_named Z (codes "Code") a ≡ b
          → (list_any (is_named pool (codes "Code")) xs ≡ true → option_and_then (λ (a : Attribute). code_of Z a.bytes) (find (is_named Z (codes "Code")) (map (with_bytes made bytes) xs)) ≡ code_of Z bytes)
          → option_and_then (λ (a : Attribute). code_of Z a.bytes) (find (is_named Z (codes "Code")) (map (with_bytes made bytes) (a ∷ xs))) ≡ code_of Z bytes
      go true e rest =
          let now : with_bytes made bytes a ≡ named_so a.name bytes = let m = made_same a L.0 ∙ e in rw m refl in
          let there : is_named Z (codes "Code") (named_so a.name bytes) ≡ true = e in
          ap (λ (y : Attribute). option_and_then (λ (a : Attribute). code_of Z a.bytes) (find (is_named Z (codes "Code")) (y ∷ map (with_bytes made bytes) xs))) now ∙ rw there refl
      go false e rest =
          let now : with_bytes made bytes a ≡ a = let m = made_same a L.0 ∙ e in rw m refl in
          let none = old ∙ e in
          let more : list_any (is_named pool (codes "Code")) xs ≡ true = rw none at h in
          ap (λ (y : Attribute). option_and_then (λ (a : Attribute). code_of Z a.bytes) (find (is_named Z (codes "Code")) (y ∷ map (with_bytes made bytes) xs))) now ∙ rw e (rest more)

  -- attributes of other names stay
  others_stay : (name : List ℕ) → same_text (Some (codes "Code")) name ≡ false → (xs : List Attribute) → AllByRecursion (IsAttribute pool) xs → named_attributes Z name (map (with_bytes made bytes) xs) ≡ named_attributes Z name xs
  others_stay name other [] L = refl
  others_stay name other (a ∷ xs) L = go (is_named Z (codes "Code") a) refl (others_stay name other xs L.1)
    where
      by_name : named_attributes Z name (map (with_bytes made bytes) xs) ≡ named_attributes Z name xs → (b : Bool) → is_named Z name a ≡ b → named_attributes Z name (a ∷ map (with_bytes made bytes) xs) ≡ named_attributes Z name (a ∷ xs)
      by_name rest true e = filter_keeps (is_named Z name) a (map (with_bytes made bytes) xs) e ∙ ap (λ (l : List Attribute). a ∷ l) rest ∙ sym (filter_keeps (is_named Z name) a xs e)
      by_name rest false e = filter_drops (is_named Z name) a (map (with_bytes made bytes) xs) e ∙ rest ∙ sym (filter_drops (is_named Z name) a xs e)

      go : (b : Bool) → is_named Z (codes "Code") a ≡ b → named_attributes Z name (map (with_bytes made bytes) xs) ≡ named_attributes Z name xs → named_attributes Z name (map (with_bytes made bytes) (a ∷ xs)) ≡ named_attributes Z name (a ∷ xs)
      go true e rest =
          let now : with_bytes made bytes a ≡ named_so a.name bytes = let m = made_same a L.0 ∙ e in rw m refl in
          let here = same_text_is (utf8 Z a.name) (codes "Code") e in
          let none : is_named Z name a ≡ false = ap (λ (o : Option (List ℕ)). same_text o name) here ∙ other in
          let none_too : is_named Z name (named_so a.name bytes) ≡ false = none in
          ap (λ (y : Attribute). named_attributes Z name (y ∷ map (with_bytes made bytes) xs)) now ∙ filter_drops (is_named Z name) (named_so a.name bytes) (map (with_bytes made bytes) xs) none_too ∙ rest ∙ sym (filter_drops (is_named Z name) a xs none)
      go false e rest =
          let now : with_bytes made bytes a ≡ a = let m = made_same a L.0 ∙ e in rw m refl in
          ap (λ (y : Attribute). named_attributes Z name (y ∷ map (with_bytes made bytes) xs)) now ∙ by_name rest (is_named Z name a) refl

  both_stay : (xs : List Attribute) → AllByRecursion (IsAttribute pool) xs → annotation_attributes Z (map (with_bytes made bytes) xs) ≡ annotation_attributes Z xs
  both_stay xs L =
      ap (λ (l : List Attribute). l ++ named_attributes Z (codes "RuntimeInvisibleAnnotations") (map (with_bytes made bytes) xs)) (others_stay (codes "RuntimeVisibleAnnotations") refl xs L)
      ∙ ap (λ (l : List Attribute). named_attributes Z (codes "RuntimeVisibleAnnotations") xs ++ l) (others_stay (codes "RuntimeInvisibleAnnotations") refl xs L)

  mark_stays : (m : Member) → AllByRecursion (IsAttribute pool) m.attributes → mark_retries Z (with_code made bytes m) ≡ mark_retries Z m
  unfolding retries_in
  mark_stays m L = ap (λ (l : List Attribute). attempts_in (answer (all_annotations Z (value_at 16 Z) true l >>= λ every. Ok (marked_retries Z every)))) (both_stay m.attributes L)

  pub retries_stay : (m : Member) → AllByRecursion (IsAttribute pool) m.attributes → retries_of Z (with_code made bytes m) ≡ retries_of Z m
  retries_stay m L = ap (λ (o : Option ℤ). if is_initialiser Z m then Some (pos 2147483647) else o) (mark_stays m L)
