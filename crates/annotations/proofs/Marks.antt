-- Marks: the walk finds what reading does.
use Rattle.std.proofs.Common.{◌≡◌, ℕ, zero, suc, Bool, true, false, cond, eqb, not, ◌&&◌, ◌||◌, List, [], ◌∷◌, ◌++◌, length, Option, Some, None, Result, Ok, Err, refl, sym, ap, ◌∙◌}
use Rattle.std.specs.Prelude.{ℤ, pos, is_none, is_some, find, option_map, option_and_then, unwrap_or, codes}
use Rattle.std.specs.List.{list_any}
use Rattle.std.specs.Option.{option_or}
use Rattle.std.proofs.lemmas.List.Folds.{find-append}
use Rattle.jmodel.specs.format.ClassFile.{Pool, Attribute}
use Rattle.jmodel.specs.format.Annotation.{Pair, Annotation, Shape, Single}
use Rattle.jmodel.specs.format.AnnotationRules.{is_text, is_mark, is_retries, integer, int_of, retries_of}
use Rattle.jmodel.specs.format.AnnotationReading.{◌>>=◌, u1_at, u2_at, text_at, items_until, counted_until, counted_at, pair_at, int_at, mark_pair_at, top_annotation_at, annotations_of, value_at}
use Rattle.jmodel.specs.format.Mark.{annotation_attributes, all_annotations, marked_retries, retries_in}
use Rattle.annotations.specs.Walk.{steps, pairs_end, integer_or, int_end, now_found, mark_pair_end, mark_pairs_end, mark_end, top_end, tops_end, attribute_end, attributes_end, value_end}
use Rattle.annotations.proofs.Agree.{ends, pairs_ends, value_ends}
use Rattle.annotations.proofs.Attributes.{attributes_end-append}

-- ---- the first that passes

abbrev pub seen : Option ℤ → Bool → ℤ → Option ℤ
seen found b n = option_or found (cond b (Some n) None)

module _ {A : Type 0} (test : A → Bool) (number : A → ℤ) where
  -- the number of an item, if it is the first that passes
  abbrev pub one : Option ℤ → Result (A × ℕ) ℕ → Result (Option ℤ × ℕ) ℕ
  one found (Ok x) = Ok (seen found (test x.0) (number x.0), x.1)
  one found (Err e) = Err e

  -- that of the first of many
  abbrev pub many : Option ℤ → Result (List A × ℕ) ℕ → Result (Option ℤ × ℕ) ℕ
  many found (Ok x) = Ok (option_or found (option_map number (find test x.0)), x.1)
  many found (Err e) = Err e

  first_of : (x : A) (xs : List A) (found : Option ℤ) (b : Bool) → option_or (seen found b (number x)) (option_map number (find test xs)) ≡ option_or found (option_map number (cond b (Some x) (find test xs)))
  first_of x xs (Some n) b = refl
  first_of x xs None true = refl
  first_of x xs None false = refl

  many_kept : (x : A) (found : Option ℤ) (r : Result (List A × ℕ) ℕ) → many (seen found (test x) (number x)) r ≡ many found (r >>= λ others. Ok (x ∷ others.0, others.1))
  many_kept x found (Ok o) = ap (λ (f : Option ℤ). Ok (f, o.1)) (first_of x o.0 found (test x))
  many_kept x found (Err e) = refl

  still : (found : Option ℤ) (b : Bool) (n : ℤ) → is_none (seen found b n) ≡ (is_none found && not b)
  still (Some k) b n = refl
  still None true n = refl
  still None false n = refl

  -- an item that changes nothing
  pub passed : {B : Type 0} (found : Option ℤ) (make : B → A) → ((x : B) → seen found (test (make x)) (number (make x)) ≡ found) → (r : Result (B × ℕ) ℕ) (e : Result ℕ ℕ) → e ≡ ends r
      → (e >>= λ next. Ok (found, next)) ≡ one found (r >>= λ x. Ok (make x.0, x.1))
  passed {B} found make stays r e same = ap (λ (k : Result ℕ ℕ). k >>= λ next. Ok (found, next)) same ∙ by_read r where
    by_read : (r : Result (B × ℕ) ℕ) → (ends r >>= λ next. Ok (found, next)) ≡ one found (r >>= λ x. Ok (make x.0, x.1))
    by_read (Ok x) = ap (λ (f : Option ℤ). Ok (f, x.1)) (sym (stays x.0))
    by_read (Err k) = refl

  module _ (read : Bool → ℕ → Result (A × ℕ) ℕ) (step : Option ℤ × ℕ → Result (Option ℤ × ℕ) ℕ) (same : (found : Option ℤ) (at : ℕ) → step (found, at) ≡ one found (read (is_none found) at)) where
    pub many_end : (n : ℕ) (found : Option ℤ) (at : ℕ) → steps step n (found, at) ≡ many found (items_until test read (is_none found) n at)
    unfolding steps items_until
    many_end zero (Some k) at = refl
    many_end zero None at = refl
    many_end (suc n) found at = ap (λ (r : Result (Option ℤ × ℕ) ℕ). r >>= steps step n) (same found at) ∙ by_read (λ f k. many_end n f k) (read (is_none found) at) where
      by_read : ((f : Option ℤ) (k : ℕ) → steps step n (f, k) ≡ many f (items_until test read (is_none f) n k)) → (r : Result (A × ℕ) ℕ)
          → (one found r >>= steps step n) ≡ many found (r >>= λ item. items_until test read (is_none found && not (test item.0)) n item.1 >>= λ others. Ok (item.0 ∷ others.0, others.1))
      by_read others (Ok x) =
          others (seen found (test x.0) (number x.0)) x.1
          ∙ ap (λ (b : Bool). many (seen found (test x.0) (number x.0)) (items_until test read b n x.1)) (still found (test x.0) (number x.0))
          ∙ many_kept x.0 found (items_until test read (is_none found && not (test x.0)) n x.1)
      by_read others (Err e) = refl

    pub counted_end : (bytes : List ℕ) (found : Option ℤ) (at : ℕ) → (u2_at bytes at >>= λ count. steps step count.0 (found, count.1)) ≡ many found (counted_until test bytes read (is_none found) at)
    unfolding counted_until
    counted_end bytes found at = by_count (u2_at bytes at) where
      by_count : (r : Result (ℕ × ℕ) ℕ) → (r >>= λ count. steps step count.0 (found, count.1)) ≡ many found (r >>= λ count. items_until test read (is_none found) count.0 count.1)
      by_count (Ok c) = many_end c.0 found c.1
      by_count (Err e) = refl

-- ---- the number of the mark

abbrev pub most : ℤ
most = pos 2147483647

abbrev pub number_of : {V : Type 0} → Pool → Pair (Shape V) → ℤ
number_of pool p = unwrap_or (int_of pool p.value) most

same_number : {V : Type 0} (pool : Pool) (class : ℕ) (ps : List (Pair (Shape V))) → unwrap_or (option_map (number_of pool) (find (is_retries pool) ps)) most ≡ retries_of pool (record { class = class; pairs = ps })
same_number {V} pool class ps = by_found (find (is_retries pool) ps) where
  by_found : (o : Option (Pair (Shape V))) → unwrap_or (option_map (number_of pool) o) most ≡ unwrap_or (option_and_then (λ (p : Pair (Shape V)). int_of pool p.value) o) most
  by_found (Some p) = refl
  by_found None = refl

module _ {V : Type 0} (pool : Pool) (bytes : List ℕ) (value : ℕ → Result (Shape V × ℕ) ℕ) (step : ℕ → Result ℕ ℕ) (same : (at : ℕ) → step at ≡ ends (value at)) where
  -- what a pair of the mark is made of
  abbrev pub named : ℕ → Shape V → Pair (Shape V)
  named name v = record { name = name; value = v }

  -- what a pair of this name and of the value that is read tells
  abbrev pub told : ℕ → Option ℤ → Result (Shape V × ℕ) ℕ → Result (Option ℤ × ℕ) ℕ
  told name found r = one (is_retries pool) (number_of pool) found (r >>= λ v. Ok (named name v.0, v.1))

  int_ends : (name at : ℕ) → is_text pool (codes "retries") name ≡ true → (int_end pool bytes at >>= now_found) ≡ told name None (int_at pool bytes at)
  unfolding int_end int_at
  int_ends name at h = by_tag (u1_at bytes at) where
    by_entry : (start next index : ℕ) (o : Option ℤ) → integer pool index ≡ o → (integer_or start o next >>= now_found) ≡ told name None (cond (is_some o) (Ok (Single 73 index, next)) (Err start))
    by_entry start next index None e = refl
    by_entry start next index (Some n) e = rw (h, e) refl

    by_index : (start : ℕ) (r : Result (ℕ × ℕ) ℕ) → ((r >>= λ index. integer_or start (integer pool index.0) index.1) >>= now_found) ≡ told name None (r >>= λ index. cond (is_some (integer pool index.0)) (Ok (Single 73 index.0, index.1)) (Err start))
    by_index start (Ok i) = by_entry start i.1 i.0 (integer pool i.0) refl
    by_index start (Err e) = refl

    by_letter : (start : ℕ) (b : Bool) → (cond b (u2_at bytes start >>= λ index. integer_or start (integer pool index.0) index.1) (Err at) >>= now_found) ≡ told name None (cond b (u2_at bytes start) (Err at) >>= λ index. cond (is_some (integer pool index.0)) (Ok (Single 73 index.0, index.1)) (Err start))
    by_letter start true = by_index start (u2_at bytes start)
    by_letter start false = refl

    by_tag : (r : Result (ℕ × ℕ) ℕ) → ((r >>= λ tag. cond (eqb tag.0 73) (u2_at bytes tag.1 >>= λ index. integer_or tag.1 (integer pool index.0) index.1) (Err at)) >>= now_found)
        ≡ told name None (r >>= λ tag. cond (eqb tag.0 73) (u2_at bytes tag.1) (Err at) >>= λ index. cond (is_some (integer pool index.0)) (Ok (Single 73 index.0, index.1)) (Err tag.1))
    by_tag (Ok tag) = by_letter tag.1 (eqb tag.0 73)
    by_tag (Err e) = refl

  pair_told : (found : Option ℤ) (name at : ℕ) → cond (is_none found && is_text pool (codes "retries") name) (int_end pool bytes at >>= now_found) (step at >>= λ next. Ok (found, next))
      ≡ told name found (cond (is_none found && is_text pool (codes "retries") name) (int_at pool bytes at) (value at))
  pair_told (Some k) name at = passed (is_retries pool) (number_of pool) (Some k) (named name) (λ v. refl) (value at) (step at) (same at)
  pair_told None name at = by_name (is_text pool (codes "retries") name) refl where
    by_name : (b : Bool) → is_text pool (codes "retries") name ≡ b → cond b (int_end pool bytes at >>= now_found) (step at >>= λ next. Ok (None, next)) ≡ told name None (cond b (int_at pool bytes at) (value at))
    by_name true h = int_ends name at h
    by_name false h = passed (is_retries pool) (number_of pool) None (named name) (λ v. rw h refl) (value at) (step at) (same at)

  pub pair_ends : (found : Option ℤ) (at : ℕ) → mark_pair_end pool step bytes (found, at) ≡ one (is_retries pool) (number_of pool) found (mark_pair_at pool value bytes (is_none found) at)
  unfolding mark_pair_end mark_pair_at
  pair_ends found at = by_name (text_at pool bytes at) where
    by_name : (r : Result (ℕ × ℕ) ℕ) → (r >>= λ name. cond (is_none found && is_text pool (codes "retries") name.0) (int_end pool bytes name.1 >>= now_found) (step name.1 >>= λ next. Ok (found, next)))
        ≡ one (is_retries pool) (number_of pool) found (r >>= λ name. cond (is_none found && is_text pool (codes "retries") name.0) (int_at pool bytes name.1) (value name.1) >>= λ v. Ok (named name.0 v.0, v.1))
    by_name (Ok name) = pair_told found name.0 name.1
    by_name (Err e) = refl

  -- ---- annotations at the top

  abbrev pub made : ℕ → List (Pair (Shape V)) → Annotation (Shape V)
  made class ps = record { class = class; pairs = ps }

  -- what an annotation of this type and of the pairs that are read tells
  abbrev pub taken : ℕ → Option ℤ → Result (List (Pair (Shape V)) × ℕ) ℕ → Result (Option ℤ × ℕ) ℕ
  taken class found r = one (is_mark pool) (retries_of pool) found (r >>= λ ps. Ok (made class ps.0, ps.1))

  abbrev pub mark_pairs : ℕ → Result (List (Pair (Shape V)) × ℕ) ℕ
  mark_pairs at = counted_until (is_retries pool) bytes (mark_pair_at pool value bytes) true at

  mark_ends : (class at : ℕ) → is_text pool (codes "Lorg/deuce/Atomic;") class ≡ true → (mark_end pool step bytes at >>= now_found) ≡ taken class None (mark_pairs at)
  unfolding mark_end mark_pairs_end
  mark_ends class at h =
      ap (λ (r : Result (Option ℤ × ℕ) ℕ). (r >>= λ s. Ok (unwrap_or s.0 most, s.1)) >>= now_found) (counted_end (is_retries pool) (number_of pool) (mark_pair_at pool value bytes) (mark_pair_end pool step bytes) pair_ends bytes None at)
      ∙ by_pairs (mark_pairs at) where
        by_pairs : (r : Result (List (Pair (Shape V)) × ℕ) ℕ) → ((many (is_retries pool) (number_of pool) None r >>= λ s. Ok (unwrap_or s.0 most, s.1)) >>= now_found) ≡ taken class None r
        by_pairs (Ok ps) = rw h (ap (λ (n : ℤ). Ok (Some n, ps.1)) (same_number pool class ps.0))
        by_pairs (Err e) = refl

  abbrev pub plain_pairs : ℕ → Result (List (Pair (Shape V)) × ℕ) ℕ
  plain_pairs at = counted_at bytes (pair_at pool value bytes) at

  top_told : (found : Option ℤ) (class at : ℕ) → cond (is_none found && is_text pool (codes "Lorg/deuce/Atomic;") class) (mark_end pool step bytes at >>= now_found) (pairs_end pool step bytes at >>= λ next. Ok (found, next))
      ≡ taken class found (cond (is_none found && is_text pool (codes "Lorg/deuce/Atomic;") class) (mark_pairs at) (plain_pairs at))
  top_told (Some k) class at = passed (is_mark pool) (retries_of pool) (Some k) (made class) (λ ps. refl) (plain_pairs at) (pairs_end pool step bytes at) (pairs_ends pool bytes value step same at)
  top_told None class at = by_class (is_text pool (codes "Lorg/deuce/Atomic;") class) refl where
    by_class : (b : Bool) → is_text pool (codes "Lorg/deuce/Atomic;") class ≡ b → cond b (mark_end pool step bytes at >>= now_found) (pairs_end pool step bytes at >>= λ next. Ok (None, next)) ≡ taken class None (cond b (mark_pairs at) (plain_pairs at))
    by_class true h = mark_ends class at h
    by_class false h = passed (is_mark pool) (retries_of pool) None (made class) (λ ps. rw h refl) (plain_pairs at) (pairs_end pool step bytes at) (pairs_ends pool bytes value step same at)

  pub top_ends : (found : Option ℤ) (at : ℕ) → top_end pool step bytes (found, at) ≡ one (is_mark pool) (retries_of pool) found (top_annotation_at pool value bytes (is_none found) at)
  unfolding top_end top_annotation_at
  top_ends found at = by_class (text_at pool bytes at) where
    by_class : (r : Result (ℕ × ℕ) ℕ) → (r >>= λ class. cond (is_none found && is_text pool (codes "Lorg/deuce/Atomic;") class.0) (mark_end pool step bytes class.1 >>= now_found) (pairs_end pool step bytes class.1 >>= λ next. Ok (found, next)))
        ≡ one (is_mark pool) (retries_of pool) found (r >>= λ class. cond (is_none found && is_text pool (codes "Lorg/deuce/Atomic;") class.0) (mark_pairs class.1) (plain_pairs class.1) >>= λ ps. Ok (made class.0 ps.0, ps.1))
    by_class (Ok class) = top_told found class.0 class.1
    by_class (Err e) = refl

-- ---- attributes

abbrev pub over : {V : Type 0} → Pool → Option ℤ → Result (List (Annotation (Shape V))) ℕ → Result (Option ℤ) ℕ
over pool found (Ok every) = Ok (option_or found (marked_retries pool every))
over pool found (Err e) = Err e

pub attribute_ends : {V : Type 0} (pool : Pool) (bytes : List ℕ) (value : ℕ → Result (Shape V × ℕ) ℕ) (step : ℕ → Result ℕ ℕ) → ((at : ℕ) → step at ≡ ends (value at)) → (found : Option ℤ) → attribute_end pool step bytes found ≡ over pool found (annotations_of pool value (is_none found) bytes)
unfolding attribute_end tops_end annotations_of
attribute_ends {V} pool bytes value step same found =
    ap (λ (r : Result (Option ℤ × ℕ) ℕ). r >>= λ s. cond (eqb s.1 (length bytes)) (Ok s.0) (Err s.1)) (counted_end (is_mark pool) (retries_of pool) (top_annotation_at pool value bytes) (top_end pool step bytes) (top_ends pool bytes value step same) bytes found 0)
    ∙ by_read (counted_until (is_mark pool) bytes (top_annotation_at pool value bytes) (is_none found) 0) where
      by_end : (xs : List (Annotation (Shape V))) (at : ℕ) (b : Bool) → cond b (Ok (option_or found (marked_retries pool xs))) (Err at) ≡ over pool found (cond b (Ok xs) (Err at))
      by_end xs at true = refl
      by_end xs at false = refl

      by_read : (r : Result (List (Annotation (Shape V)) × ℕ) ℕ) → (many (is_mark pool) (retries_of pool) found r >>= λ s. cond (eqb s.1 (length bytes)) (Ok s.0) (Err s.1)) ≡ over pool found (r >>= λ every. cond (eqb every.1 (length bytes)) (Ok every.0) (Err every.1))
      by_read (Ok x) = by_end x.0 x.1 (eqb x.1 (length bytes))
      by_read (Err e) = refl

none_found : {A : Type 0} (test : A → Bool) (number : A → ℤ) (xs : List A) → is_none (option_map number (find test xs)) ≡ not (list_any test xs)
none_found test number [] = refl
none_found test number (x ∷ xs) = by_test (test x) (none_found test number xs) where
  by_test : (b : Bool) → is_none (option_map number (find test xs)) ≡ not (list_any test xs) → is_none (option_map number (cond b (Some x) (find test xs))) ≡ not (b || list_any test xs)
  by_test true h = refl
  by_test false h = h

still_none : (found o : Option ℤ) (b : Bool) → is_none o ≡ b → is_none (option_or found o) ≡ (is_none found && b)
still_none (Some n) o b h = refl
still_none None o b h = h

both_or : {A : Type 0} (number : A → ℤ) (found : Option ℤ) (a b : Option A) → option_or (option_or found (option_map number a)) (option_map number b) ≡ option_or found (option_map number (option_or a b))
both_or number (Some n) a b = refl
both_or number None (Some x) b = refl
both_or number None None b = refl

module _ {V : Type 0} (pool : Pool) (value : List ℕ → ℕ → Result (Shape V × ℕ) ℕ) (step : List ℕ → ℕ → Result ℕ ℕ) (same : (bytes : List ℕ) (at : ℕ) → step bytes at ≡ ends (value bytes at)) where
  over_kept : (found : Option ℤ) (every : List (Annotation (Shape V))) (r : Result (List (Annotation (Shape V))) ℕ) → over pool (option_or found (marked_retries pool every)) r ≡ over pool found (r >>= λ others. Ok (every ++ others))
  over_kept found every (Ok others) = ap (λ (f : Option ℤ). Ok f) (both_or (retries_of pool) found (find (is_mark pool) every) (find (is_mark pool) others) ∙ ap (λ (a : Option (Annotation (Shape V))). option_or found (option_map (retries_of pool) a)) (sym (find-append (is_mark pool) every others)))
  over_kept found every (Err e) = refl

  pub attributes_ends : (xs : List Attribute) (found : Option ℤ) → attributes_end pool step xs found ≡ over pool found (all_annotations pool value (is_none found) xs)
  unfolding attributes_end all_annotations
  attributes_ends [] (Some n) = refl
  attributes_ends [] None = refl
  attributes_ends (x ∷ xs) found =
      ap (λ (r : Result (Option ℤ) ℕ). r >>= attributes_end pool step xs) (attribute_ends pool x.bytes (value x.bytes) (step x.bytes) (same x.bytes) found)
      ∙ by_first (λ f. attributes_ends xs f) (annotations_of pool (value x.bytes) (is_none found) x.bytes) where
        by_first : ((f : Option ℤ) → attributes_end pool step xs f ≡ over pool f (all_annotations pool value (is_none f) xs)) → (r : Result (List (Annotation (Shape V))) ℕ)
            → (over pool found r >>= attributes_end pool step xs) ≡ over pool found (r >>= λ every. all_annotations pool value (is_none found && not (list_any (is_mark pool) every)) xs >>= λ others. Ok (every ++ others))
        by_first others (Ok every) =
            let f = option_or found (marked_retries pool every) in
            others f
            ∙ ap (λ (b : Bool). over pool f (all_annotations pool value b xs)) (still_none found (marked_retries pool every) (not (list_any (is_mark pool) every)) (none_found (is_mark pool) (retries_of pool) every))
            ∙ over_kept found every (all_annotations pool value (is_none found && not (list_any (is_mark pool) every)) xs)
        by_first others (Err e) = refl

  -- what is granted without any found before
  pub granted_by : (xs : List Attribute) → (all_annotations pool value true xs >>= λ every. Ok (marked_retries pool every)) ≡ attributes_end pool step xs None
  granted_by xs = by_read (all_annotations pool value true xs) ∙ sym (attributes_ends xs None) where
    by_read : (r : Result (List (Annotation (Shape V))) ℕ) → (r >>= λ every. Ok (marked_retries pool every)) ≡ over pool None r
    by_read (Ok every) = refl
    by_read (Err e) = refl

pub retries_by_parts : (pool : Pool) (xs ys : List Attribute) (all : List Attribute) → annotation_attributes pool all ≡ xs ++ ys → retries_in pool all ≡ (attributes_end pool (value_end 16 pool) xs None >>= attributes_end pool (value_end 16 pool) ys)
unfolding retries_in
retries_by_parts pool xs ys all h =
    granted_by pool (value_at 16 pool) (value_end 16 pool) (λ bytes at. value_ends 16 pool bytes at) (annotation_attributes pool all)
    ∙ ap (λ (zs : List Attribute). attributes_end pool (value_end 16 pool) zs None) h
    ∙ attributes_end-append pool (value_end 16 pool) xs ys None
