-- What is read over a pool is read over every pool in which the same indexes have the same texts and ints.
use Rattle.std.proofs.Common.{◌≡◌, ℕ, zero, suc, Bool, true, false, cond, eqb, ◌&&◌, List, [], ◌∷◌, ◌++◌, length, Option, Some, None, Result, Ok, Err, refl, sym, ap, ◌∙◌, subst}
use Rattle.std.specs.Prelude.{ℤ, is_none, is_some, codes}
use Rattle.jmodel.specs.declared.mark.Atomic.{Atomic}
use Rattle.jmodel.specs.format.ClassFile.{Pool, Attribute, Member}
use Rattle.jmodel.specs.format.Pool.{utf8}
use Rattle.jmodel.specs.format.ClassRules.{named_attributes}
use Rattle.jmodel.specs.format.AnnotationRules.{is_single, is_text, integer}
use Rattle.jmodel.specs.format.AnnotationReading.{◌>>=◌, u1_at, u2_at, text_at}
use Rattle.jmodel.specs.format.Mark.{annotation_attributes, retries_in, answer, mark_of}
use Rattle.annotations.specs.Walk.{steps, pair_end, pairs_end, annotation_end, values_end, single_end, enum_end, tagged_end, shape_end, value_end, integer_or, int_end, now_found, mark_pair_end, mark_pairs_end, mark_end, top_end, tops_end, attribute_end, attributes_end}
use Rattle.annotations.proofs.Marks.{retries_by_parts}

-- what the first reads, the second reads too
abbrev pub Keeps : {A : Type 0} → Result A ℕ → Result A ℕ → Type 0
Keeps {A} r s = (x : A) → r ≡ Ok x → s ≡ Ok x

then_keeps : {A B : Type 0} (r s : Result A ℕ) (f g : A → Result B ℕ) → Keeps r s → ((x : A) → r ≡ Ok x → Keeps (f x) (g x)) → Keeps (r >>= f) (s >>= g)
then_keeps (Ok y) s f g h k x e = let p = h y refl in rw p (k y refl x e)
then_keeps (Err at) s f g h k x e = absurd cc

cond_keeps : {A : Type 0} (b : Bool) (p q r s : Result A ℕ) → Keeps p q → Keeps r s → Keeps (cond b p r) (cond b q s)
cond_keeps true p q r s h k = h
cond_keeps false p q r s h k = k

steps_keep : {S : Type 0} (f g : S → Result S ℕ) → ((s : S) → Keeps (f s) (g s)) → (n : ℕ) (s : S) → Keeps (steps f n s) (steps g n s)
unfolding steps
steps_keep f g k zero s = λ x e. e
steps_keep f g k (suc n) s = then_keeps (f s) (g s) (steps f n) (steps g n) (k s) (λ y e. steps_keep f g k n y)

module _ (a b : Pool) (texts : (i : ℕ) (t : List ℕ) → utf8 a i ≡ Some t → utf8 b i ≡ Some t) (numbers : (i : ℕ) (n : ℤ) → integer a i ≡ Some n → integer b i ≡ Some n) where
  -- ---- texts

  text_keeps : (bytes : List ℕ) (at : ℕ) → Keeps (text_at a bytes at) (text_at b bytes at)
  unfolding text_at
  text_keeps bytes at =
      then_keeps (u2_at bytes at) (u2_at bytes at) (λ i. cond (is_some (utf8 a i.0)) (Ok i) (Err at)) (λ i. cond (is_some (utf8 b i.0)) (Ok i) (Err at)) (λ x e. e) (λ i e. by_text i (utf8 a i.0) refl)
    where
      by_text : (i : ℕ × ℕ) (o : Option (List ℕ)) → utf8 a i.0 ≡ o → Keeps (cond (is_some o) (Ok i) (Err at)) (cond (is_some (utf8 b i.0)) (Ok i) (Err at))
      by_text i None e x h = absurd cc
      by_text i (Some t) e x h = let p = texts i.0 t e in rw p h

  -- what was read as the index of a text is one
  text_there : (bytes : List ℕ) (at : ℕ) (i : ℕ × ℕ) → text_at a bytes at ≡ Ok i → (t : List ℕ) × (utf8 a i.0 ≡ Some t)
  unfolding text_at
  text_there bytes at i h = by_index (u2_at bytes at) h
    where
      by_text : (j : ℕ × ℕ) (o : Option (List ℕ)) → utf8 a j.0 ≡ o → cond (is_some o) (Ok j) (Err at) ≡ Ok i → (t : List ℕ) × (utf8 a i.0 ≡ Some t)
      by_text j None e h = absurd cc
      by_text j (Some t) e h = let same : j ≡ i = cc in (t, subst (λ (k : ℕ × ℕ). utf8 a k.0 ≡ Some t) same e)

      by_index : (r : Result (ℕ × ℕ) ℕ) → (r >>= λ j. cond (is_some (utf8 a j.0)) (Ok j) (Err at)) ≡ Ok i → (t : List ℕ) × (utf8 a i.0 ≡ Some t)
      by_index (Ok j) h = by_text j (utf8 a j.0) refl h
      by_index (Err e) h = absurd cc

  same_name : (text : List ℕ) (i : ℕ) (t : List ℕ) → utf8 a i ≡ Some t → is_text a text i ≡ is_text b text i
  same_name text i t e = let p = texts i t e in rw (e, p) refl

  -- a choice by whether the index that was read is of this text
  named_keeps : {A : Type 0} (bytes : List ℕ) (at : ℕ) (first : Bool) (text : List ℕ) (f g h k : ℕ × ℕ → Result A ℕ) → ((i : ℕ × ℕ) → Keeps (f i) (g i)) → ((i : ℕ × ℕ) → Keeps (h i) (k i))
      → Keeps (text_at a bytes at >>= λ i. cond (first && is_text a text i.0) (f i) (h i)) (text_at b bytes at >>= λ i. cond (first && is_text b text i.0) (g i) (k i))
  named_keeps bytes at first text f g h k p q =
      then_keeps (text_at a bytes at) (text_at b bytes at) (λ i. cond (first && is_text a text i.0) (f i) (h i)) (λ i. cond (first && is_text b text i.0) (g i) (k i)) (text_keeps bytes at)
      (λ i e.
      let t = text_there bytes at i e in
      subst (λ (z : Bool). Keeps (cond (first && is_text a text i.0) (f i) (h i)) (cond (first && z) (g i) (k i))) (same_name text i.0 t.0 t.1)
      (cond_keeps (first && is_text a text i.0) (f i) (g i) (h i) (k i) (p i) (q i)))

  -- ---- values and annotations

  module _ (bytes : List ℕ) (v w : ℕ → Result ℕ ℕ) (kept : (at : ℕ) → Keeps (v at) (w at)) where
    pair_keeps : (at : ℕ) → Keeps (pair_end a v bytes at) (pair_end b w bytes at)
    unfolding pair_end
    pair_keeps at = then_keeps (text_at a bytes at) (text_at b bytes at) (λ name. v name.1) (λ name. w name.1) (text_keeps bytes at) (λ name e. kept name.1)

    pub pairs_keep : (at : ℕ) → Keeps (pairs_end a v bytes at) (pairs_end b w bytes at)
    unfolding pairs_end
    pairs_keep at =
        then_keeps (u2_at bytes at) (u2_at bytes at) (λ count. steps (pair_end a v bytes) count.0 count.1) (λ count. steps (pair_end b w bytes) count.0 count.1) (λ x e. e)
        (λ count e. steps_keep (pair_end a v bytes) (pair_end b w bytes) pair_keeps count.0 count.1)

    annotation_keeps : (at : ℕ) → Keeps (annotation_end a v bytes at) (annotation_end b w bytes at)
    unfolding annotation_end
    annotation_keeps at = then_keeps (text_at a bytes at) (text_at b bytes at) (λ class. pairs_end a v bytes class.1) (λ class. pairs_end b w bytes class.1) (text_keeps bytes at) (λ class e. pairs_keep class.1)

    values_keep : (at : ℕ) → Keeps (values_end v bytes at) (values_end w bytes at)
    unfolding values_end
    values_keep at =
        then_keeps (u2_at bytes at) (u2_at bytes at) (λ count. steps v count.0 count.1) (λ count. steps w count.0 count.1) (λ x e. e) (λ count e. steps_keep v w kept count.0 count.1)

    tagged_keeps : (start tag at : ℕ) → Keeps (tagged_end a v bytes start tag at) (tagged_end b w bytes start tag at)
    unfolding tagged_end
    tagged_keeps start tag at =
        cond_keeps (is_single tag) (single_end bytes at) (single_end bytes at) _ _ (λ x e. e)
        (cond_keeps (eqb tag 101) (enum_end bytes at) (enum_end bytes at) _ _ (λ x e. e)
        (cond_keeps (eqb tag 64) (annotation_end a v bytes at) (annotation_end b w bytes at) _ _ (annotation_keeps at)
        (cond_keeps (eqb tag 91) (values_end v bytes at) (values_end w bytes at) (Err start) (Err start) (values_keep at) (λ x e. e))))

    pub shape_keeps : (at : ℕ) → Keeps (shape_end a v bytes at) (shape_end b w bytes at)
    unfolding shape_end
    shape_keeps at = then_keeps (u1_at bytes at) (u1_at bytes at) (λ tag. tagged_end a v bytes at tag.0 tag.1) (λ tag. tagged_end b w bytes at tag.0 tag.1) (λ x e. e) (λ tag e. tagged_keeps at tag.0 tag.1)

  value_keeps : (n : ℕ) (bytes : List ℕ) (at : ℕ) → Keeps (value_end n a bytes at) (value_end n b bytes at)
  unfolding value_end
  value_keeps zero bytes at = λ x e. e
  value_keeps (suc n) bytes at = shape_keeps bytes (value_end n a bytes) (value_end n b bytes) (value_keeps n bytes) at

  -- ---- the mark

  int_keeps : (bytes : List ℕ) (at : ℕ) → Keeps (int_end a bytes at) (int_end b bytes at)
  unfolding int_end
  int_keeps bytes at =
      then_keeps (u1_at bytes at) (u1_at bytes at) (λ tag. cond (eqb tag.0 73) (u2_at bytes tag.1 >>= λ index. integer_or tag.1 (integer a index.0) index.1) (Err at))
      (λ tag. cond (eqb tag.0 73) (u2_at bytes tag.1 >>= λ index. integer_or tag.1 (integer b index.0) index.1) (Err at)) (λ x e. e)
      (λ tag e. cond_keeps (eqb tag.0 73) (u2_at bytes tag.1 >>= λ index. integer_or tag.1 (integer a index.0) index.1) (u2_at bytes tag.1 >>= λ index. integer_or tag.1 (integer b index.0) index.1) (Err at) (Err at)
      (then_keeps (u2_at bytes tag.1) (u2_at bytes tag.1) (λ index. integer_or tag.1 (integer a index.0) index.1) (λ index. integer_or tag.1 (integer b index.0) index.1) (λ x e. e)
      (λ index e. by_number tag.1 index (integer a index.0) refl))
      (λ x e. e))
    where
      by_number : (start : ℕ) (index : ℕ × ℕ) (o : Option ℤ) → integer a index.0 ≡ o → Keeps (integer_or start o index.1) (integer_or start (integer b index.0) index.1)
      by_number start index None e x h = absurd cc
      by_number start index (Some n) e x h = let p = numbers index.0 n e in rw p h

  module _ (bytes : List ℕ) (v w : ℕ → Result ℕ ℕ) (kept : (at : ℕ) → Keeps (v at) (w at)) where
    mark_pair_keeps : (s : Option ℤ × ℕ) → Keeps (mark_pair_end a v bytes s) (mark_pair_end b w bytes s)
    unfolding mark_pair_end
    mark_pair_keeps s =
        named_keeps bytes s.1 (is_none s.0) (codes "retries") (λ name. int_end a bytes name.1 >>= now_found) (λ name. int_end b bytes name.1 >>= now_found)
        (λ name. v name.1 >>= λ next. Ok (s.0, next)) (λ name. w name.1 >>= λ next. Ok (s.0, next))
        (λ name. then_keeps (int_end a bytes name.1) (int_end b bytes name.1) now_found now_found (int_keeps bytes name.1) (λ n e x h. h))
        (λ name. then_keeps (v name.1) (w name.1) (λ next. Ok (s.0, next)) (λ next. Ok (s.0, next)) (kept name.1) (λ next e x h. h))

    mark_pairs_keep : (at : ℕ) → Keeps (mark_pairs_end a v bytes at) (mark_pairs_end b w bytes at)
    unfolding mark_pairs_end
    mark_pairs_keep at =
        then_keeps (u2_at bytes at) (u2_at bytes at) (λ count. steps (mark_pair_end a v bytes) count.0 (None, count.1)) (λ count. steps (mark_pair_end b w bytes) count.0 (None, count.1)) (λ x e. e)
        (λ count e. steps_keep (mark_pair_end a v bytes) (mark_pair_end b w bytes) mark_pair_keeps count.0 (None, count.1))

    mark_keeps : (at : ℕ) → Keeps (mark_end a v bytes at) (mark_end b w bytes at)
    unfolding mark_end
    mark_keeps at = then_keeps (mark_pairs_end a v bytes at) (mark_pairs_end b w bytes at) _ _ (mark_pairs_keep at) (λ s e x h. h)

    top_keeps : (s : Option ℤ × ℕ) → Keeps (top_end a v bytes s) (top_end b w bytes s)
    unfolding top_end
    top_keeps s =
        named_keeps bytes s.1 (is_none s.0) (codes "Lorg/deuce/Atomic;") (λ class. mark_end a v bytes class.1 >>= now_found) (λ class. mark_end b w bytes class.1 >>= now_found)
        (λ class. pairs_end a v bytes class.1 >>= λ next. Ok (s.0, next)) (λ class. pairs_end b w bytes class.1 >>= λ next. Ok (s.0, next))
        (λ class. then_keeps (mark_end a v bytes class.1) (mark_end b w bytes class.1) now_found now_found (mark_keeps class.1) (λ n e x h. h))
        (λ class. then_keeps (pairs_end a v bytes class.1) (pairs_end b w bytes class.1) (λ next. Ok (s.0, next)) (λ next. Ok (s.0, next)) (pairs_keep bytes v w kept class.1) (λ next e x h. h))

    tops_keep : (found : Option ℤ) → Keeps (tops_end a v bytes found) (tops_end b w bytes found)
    unfolding tops_end
    tops_keep found =
        then_keeps (u2_at bytes 0) (u2_at bytes 0) (λ count. steps (top_end a v bytes) count.0 (found, count.1)) (λ count. steps (top_end b w bytes) count.0 (found, count.1)) (λ x e. e)
        (λ count e. steps_keep (top_end a v bytes) (top_end b w bytes) top_keeps count.0 (found, count.1))

    pub attribute_keeps : (found : Option ℤ) → Keeps (attribute_end a v bytes found) (attribute_end b w bytes found)
    unfolding attribute_end
    attribute_keeps found = then_keeps (tops_end a v bytes found) (tops_end b w bytes found) _ _ (tops_keep found) (λ s e x h. h)

  attributes_keep : (xs : List Attribute) (found : Option ℤ) → Keeps (attributes_end a (value_end 16 a) xs found) (attributes_end b (value_end 16 b) xs found)
  unfolding attributes_end
  attributes_keep [] found = λ x e. e
  attributes_keep (x ∷ xs) found =
      then_keeps (attribute_end a (value_end 16 a x.bytes) x.bytes found) (attribute_end b (value_end 16 b x.bytes) x.bytes found) (attributes_end a (value_end 16 a) xs) (attributes_end b (value_end 16 b) xs)
      (attribute_keeps x.bytes (value_end 16 a x.bytes) (value_end 16 b x.bytes) (value_keeps 16 x.bytes) found) (λ f e. attributes_keep xs f)

  retries_keep : (xs ys : List Attribute) → annotation_attributes b ys ≡ annotation_attributes a xs → Keeps (retries_in a xs) (retries_in b ys)
  retries_keep xs ys same n e =
      let seen = named_attributes a (codes "RuntimeVisibleAnnotations") xs in
      let unseen = named_attributes a (codes "RuntimeInvisibleAnnotations") xs in
      let old = retries_by_parts a seen unseen xs refl in
      let new = retries_by_parts b seen unseen ys same in
      let kept = then_keeps (attributes_end a (value_end 16 a) seen None) (attributes_end b (value_end 16 b) seen None) (attributes_end a (value_end 16 a) unseen) (attributes_end b (value_end 16 b) unseen)
      (attributes_keep seen None) (λ f h. attributes_keep unseen f) in
      new ∙ kept n (sym old ∙ e)

  -- the mark of a method, also beside other attributes of other names
  pub mark_kept : (m x : Member) (found : Option Atomic) → annotation_attributes b x.attributes ≡ annotation_attributes a m.attributes → mark_of a m ≡ Ok found → mark_of b x ≡ Ok found
  mark_kept m x found same e = by_read (retries_in a m.attributes) refl e
    where
      by_read : (r : Result (Option ℤ) ℕ) → retries_in a m.attributes ≡ r → answer r ≡ Ok found → mark_of b x ≡ Ok found
      by_read (Ok n) h e = ap answer (retries_keep m.attributes x.attributes same n h) ∙ e
      by_read (Err at) h e = absurd cc
