-- The mark and attributes: what is read is spelled so, and what is spelled so is read.
use Rattle.std.proofs.Common.{◌≡◌, ℕ, zero, suc, ◌+◌, ◌^◌, ◌<◌, Bool, true, false, cond, eqb, not, ◌&&◌, List, [], ◌∷◌, ◌++◌, length, None, Result, Ok, Err, refl, sym, ap, subst, ◌⊎◌, inl, inr, arith}
use Rattle.std.specs.Prelude.{is_some, IsSome, IfSome, find, filter, codes}
use Rattle.std.specs.Int.{w8, to_be_bytes}
use Rattle.std.specs.List.{flat_map, list_any, AllByRecursion}
use Rattle.std.proofs.lemmas.Bool.{eqb-true, eq-eqb}
use Rattle.jmodel.specs.format.ClassFile.{Pool, Attribute, u2}
use Rattle.jmodel.specs.format.ClassRules.{is_named}
use Rattle.const_pool.proofs.Takes.{IsBytes, Takes, Takes-then, Takes-first, Takes-second}
use Rattle.const_pool.proofs.Parts.{Takes-all, all-Takes}
use Rattle.jmodel.specs.declared.mark.AnnotationFault.TheVariants.{Bad}
use Rattle.jmodel.specs.format.Annotation.{Pair, Annotation, Shape, Single, Enum, Nested, Array, Value, pair_text, annotation_text, shape_text, value_text, annotations_text}
use Rattle.jmodel.specs.format.AnnotationRules.{is_text, is_mark, is_retries, integer, int_of, IsPair, IsAnnotation, IsShape, IsValue, IsSoundMark, HasSoundMark, SpellsAnnotations}
use Rattle.jmodel.specs.format.AnnotationReading.{◌>>=◌, u1_at, u2_at, text_at, counted_at, counted_until, pair_at, int_at, mark_pair_at, top_annotation_at, annotations_of, value_at}
use Rattle.jmodel.specs.format.Mark.{annotation_attributes, all_annotations, marked_retries, retries_in, granted, answer}
use Rattle.jmodel.specs.laws.MarkLaw.{AreBytes, Spells, SpellAll, Annotates, AttributeLaw, MarkLaw}
use Rattle.annotations.proofs.FieldLaws.{bind_ok, want_ok, ok_is, u1_takes, u1_again, u2_takes, u2_again, text_takes, text_again}
use Rattle.annotations.proofs.Items.{Reads, Rereads, OfFirst, ReadsFirst, RereadsFirst, counted_take, counted_again, counted_until_take, counted_until_again}
use Rattle.annotations.proofs.ValueLaws.{pair_takes, pair_again, value_takes, value_again}

module _ {V : Type 0} (pool : Pool) (bytes : List ℕ) (spell : V → List ℕ) (Fits : V → Type 0) (value : ℕ → Result (Shape V × ℕ) ℕ) where
  abbrev pub text : Shape V → List ℕ
  text s = shape_text spell s

  abbrev pub Whole : Shape V → Type 0
  Whole s = IsShape pool Fits s

  -- ---- the int of a mark

  int_takes : IsBytes bytes → (at : ℕ) (v : Shape V) (next : ℕ) → int_at pool bytes at ≡ Ok (v, next) → Takes bytes at (text v) next × Whole v × IsSome (int_of pool v)
  unfolding int_at
  int_takes fits at v next e =
      let a = bind_ok (u1_at bytes at) (λ tag. cond (eqb tag.0 73) (u2_at bytes tag.1) (Err at) >>= λ index. cond (is_some (integer pool index.0)) (Ok (Single 73 index.0, index.1)) (Err tag.1)) (v, next) e in
      let b = bind_ok (cond (eqb a.0.0 73) (u2_at bytes a.0.1) (Err at)) (λ index. cond (is_some (integer pool index.0)) (Ok (Single 73 index.0, index.1)) (Err a.0.1)) (v, next) a.2 in
      let c = want_ok (eqb a.0.0 73) at (u2_at bytes a.0.1) b.0 b.1 in
      let w = want_ok (is_some (integer pool b.0.0)) a.0.1 (Ok (Single 73 b.0.0, b.0.1)) (v, next) b.2 in
      let t0 = u1_takes bytes fits at a.0 a.1 in
      let t1 = u2_takes bytes fits a.0.1 b.0 c.1 in
      let tag : Takes bytes at (to_be_bytes w8 73) a.0.1 = subst (λ (k : ℕ). Takes bytes at (to_be_bytes w8 k) a.0.1) (eqb-true a.0.0 73 c.0) t0.0 in
      let made : Shape V × ℕ = (Single 73 b.0.0, b.0.1) in
      subst (λ (y : Shape V × ℕ). Takes bytes at (text y.0) y.1 × Whole y.0 × IsSome (int_of pool y.0)) (ok_is made (v, next) w.1)
      (Takes-then bytes at (to_be_bytes w8 73) a.0.1 (u2 b.0.0) b.0.1 tag t1.0, (refl, omega arith, t1.1), w.0)

  letter_again : (at index next : ℕ) → index < 2 ^ 16 → IsSome (integer pool index) → Takes bytes at (to_be_bytes w8 73 ++ u2 index) next → int_at {V = V} pool bytes at ≡ Ok (Single 73 index, next)
  unfolding int_at
  letter_again at index next lt h t =
      let tag = u1_again bytes at 73 (at + 1) (omega arith) (Takes-first bytes at (to_be_bytes w8 73) (u2 index) next t) in
      let i = u2_again bytes (at + 1) index next lt (Takes-second bytes at (to_be_bytes w8 73) (u2 index) next t) in
      rw (tag, i, h) refl

  int_again : (at : ℕ) (v : Shape V) (next : ℕ) → Whole v → IsSome (int_of pool v) → Takes bytes at (text v) next → int_at pool bytes at ≡ Ok (v, next)
  int_again at (Single tag index) next h some t = by_tag (eqb tag 73) refl some where
    by_tag : (b : Bool) → eqb tag 73 ≡ b → IsSome (cond b (integer pool index) None) → int_at {V = V} pool bytes at ≡ Ok (Single tag index, next)
    by_tag true e k =
        let is : 73 ≡ tag = sym (eqb-true tag 73 e) in
        subst (λ (n : ℕ). int_at {V = V} pool bytes at ≡ Ok (Single n index, next)) is (letter_again at index next h.2 k (subst (λ (n : ℕ). Takes bytes at (to_be_bytes w8 n ++ u2 index) next) (sym is) t))
    by_tag false e k = absurd cc
  int_again at (Enum class name) next h some t = absurd cc
  int_again at (Nested a) next h some t = absurd cc
  int_again at (Array vs) next h some t = absurd cc

  -- ---- pairs of the mark

  abbrev pub HasInt : Pair (Shape V) → Type 0
  HasInt p = IsSome (int_of pool p.value)

  value_or_int_takes : IsBytes bytes → Reads bytes text Whole value → (b : Bool) (at : ℕ) (v : Shape V) (next : ℕ) → cond b (int_at pool bytes at) (value at) ≡ Ok (v, next) → Takes bytes at (text v) next × Whole v × (b ≡ true → IsSome (int_of pool v))
  value_or_int_takes fits each true at v next e = let t = int_takes fits at v next e in (t.0, t.1, λ h. t.2)
  value_or_int_takes fits each false at v next e = let t = each at v next e in (t.0, t.1, λ h. absurd cc)

  value_or_int_again : Rereads bytes text Whole value → (b : Bool) (at : ℕ) (v : Shape V) (next : ℕ) → Whole v → (b ≡ true → IsSome (int_of pool v)) → Takes bytes at (text v) next → cond b (int_at pool bytes at) (value at) ≡ Ok (v, next)
  value_or_int_again each true at v next h k t = int_again at v next h (k refl) t
  value_or_int_again each false at v next h k t = each at v next h t

  mark_pair_takes : IsBytes bytes → Reads bytes text Whole value → ReadsFirst bytes (pair_text text) (IsPair pool Whole) (is_retries pool) HasInt (mark_pair_at pool value bytes)
  unfolding mark_pair_at
  mark_pair_takes fits each first at p next e =
      let a = bind_ok (text_at pool bytes at) (λ name. cond (first && is_text pool (codes "retries") name.0) (int_at pool bytes name.1) (value name.1) >>= λ v. Ok (record { name = name.0; value = v.0 }, v.1)) (p, next) e in
      let b = bind_ok (cond (first && is_text pool (codes "retries") a.0.0) (int_at pool bytes a.0.1) (value a.0.1)) (λ v. Ok (record { name = a.0.0; value = v.0 }, v.1)) (p, next) a.2 in
      let t0 = text_takes bytes pool fits at a.0 a.1 in
      let t1 = value_or_int_takes fits each (first && is_text pool (codes "retries") a.0.0) a.0.1 b.0.0 b.0.1 b.1 in
      let made : Pair (Shape V) × ℕ = (record { name = a.0.0; value = b.0.0 }, b.0.1) in
      subst (λ (y : Pair (Shape V) × ℕ). Takes bytes at (pair_text text y.0) y.1 × IsPair pool Whole y.0 × ((first && is_retries pool y.0) ≡ true → HasInt y.0)) (ok_is made (p, next) b.2)
      (Takes-then bytes at (u2 a.0.0) a.0.1 (text b.0.0) b.0.1 t0.0 t1.0, record { name = t0.1; value = t1.1 }, t1.2)

  mark_pair_again : Rereads bytes text Whole value → RereadsFirst bytes (pair_text text) (IsPair pool Whole) (is_retries pool) HasInt (mark_pair_at pool value bytes)
  unfolding mark_pair_at
  mark_pair_again each first at p next h k t =
      let name = text_again bytes pool at p.name (at + 2) h.name (Takes-first bytes at (u2 p.name) (text p.value) next t) in
      let v = value_or_int_again each (first && is_text pool (codes "retries") p.name) (at + 2) p.value next h.value k (Takes-second bytes at (u2 p.name) (text p.value) next t) in
      rw (name, v) refl

  -- ---- annotations at the top

  abbrev pub ArePairs : List (Pair (Shape V)) → Type 0
  ArePairs ps = AllByRecursion (IsPair pool Whole) ps

  abbrev pub pairs_text : List (Pair (Shape V)) → List ℕ
  pairs_text ps = u2 (length ps) ++ flat_map (pair_text text) ps

  abbrev pub SoundPairs : List (Pair (Shape V)) → Type 0
  SoundPairs ps = IfSome (find (is_retries pool) ps) HasInt

  pairs_take : IsBytes bytes → Reads bytes text Whole value → (b : Bool) (at : ℕ) (x : List (Pair (Shape V)) × ℕ)
      → cond b (counted_until (is_retries pool) bytes (mark_pair_at pool value bytes) true at) (counted_at bytes (pair_at pool value bytes) at) ≡ Ok x
      → Takes bytes at (pairs_text x.0) x.1 × (length x.0 < 2 ^ 16) × ArePairs x.0 × (b ≡ true → SoundPairs x.0)
  pairs_take fits each true at x e =
      let t = counted_until_take bytes (pair_text text) (IsPair pool Whole) (is_retries pool) HasInt (mark_pair_at pool value bytes) fits (mark_pair_takes fits each) true at x e in
      (t.0, t.1, t.2, λ h. t.3)
  pairs_take fits each false at x e =
      let t = counted_take bytes (pair_text text) (IsPair pool Whole) (pair_at pool value bytes) fits (pair_takes pool bytes text Whole value fits each) at x e in
      (t.0, t.1, t.2, λ h. absurd cc)

  pairs_again : Rereads bytes text Whole value → (b : Bool) (at : ℕ) (ps : List (Pair (Shape V))) (next : ℕ) → length ps < 2 ^ 16 → ArePairs ps → (b ≡ true → SoundPairs ps) → Takes bytes at (pairs_text ps) next
      → cond b (counted_until (is_retries pool) bytes (mark_pair_at pool value bytes) true at) (counted_at bytes (pair_at pool value bytes) at) ≡ Ok (ps, next)
  pairs_again each true at ps next few h k t = counted_until_again bytes (pair_text text) (IsPair pool Whole) (is_retries pool) HasInt (mark_pair_at pool value bytes) (mark_pair_again each) ps true at next few h (k refl) t
  pairs_again each false at ps next few h k t = counted_again bytes (pair_text text) (IsPair pool Whole) (pair_at pool value bytes) (pair_again pool bytes text Whole value each) ps at next few h t

  top_takes : IsBytes bytes → Reads bytes text Whole value → ReadsFirst bytes (annotation_text text) (IsAnnotation pool Whole) (is_mark pool) (IsSoundMark pool) (top_annotation_at pool value bytes)
  unfolding top_annotation_at
  top_takes fits each first at x next e =
      let a = bind_ok (text_at pool bytes at) (λ class. cond (first && is_text pool (codes "Lorg/deuce/Atomic;") class.0) (counted_until (is_retries pool) bytes (mark_pair_at pool value bytes) true class.1) (counted_at bytes (pair_at pool value bytes) class.1)
      >>= λ pairs. Ok (record { class = class.0; pairs = pairs.0 }, pairs.1)) (x, next) e in
      let b = bind_ok (cond (first && is_text pool (codes "Lorg/deuce/Atomic;") a.0.0) (counted_until (is_retries pool) bytes (mark_pair_at pool value bytes) true a.0.1) (counted_at bytes (pair_at pool value bytes) a.0.1))
      (λ pairs. Ok (record { class = a.0.0; pairs = pairs.0 }, pairs.1)) (x, next) a.2 in
      let t0 = text_takes bytes pool fits at a.0 a.1 in
      let t1 = pairs_take fits each (first && is_text pool (codes "Lorg/deuce/Atomic;") a.0.0) a.0.1 b.0 b.1 in
      let made : Annotation (Shape V) × ℕ = (record { class = a.0.0; pairs = b.0.0 }, b.0.1) in
      subst (λ (y : Annotation (Shape V) × ℕ). Takes bytes at (annotation_text text y.0) y.1 × IsAnnotation pool Whole y.0 × ((first && is_mark pool y.0) ≡ true → IsSoundMark pool y.0)) (ok_is made (x, next) b.2)
      (Takes-then bytes at (u2 a.0.0) a.0.1 (pairs_text b.0.0) b.0.1 t0.0 t1.0, record { class = t0.1; few = t1.1; pairs = t1.2 }, t1.3)

  top_again : Rereads bytes text Whole value → RereadsFirst bytes (annotation_text text) (IsAnnotation pool Whole) (is_mark pool) (IsSoundMark pool) (top_annotation_at pool value bytes)
  unfolding top_annotation_at
  top_again each first at x next h k t =
      let class = text_again bytes pool at x.class (at + 2) h.class (Takes-first bytes at (u2 x.class) (pairs_text x.pairs) next t) in
      let pairs = pairs_again each (first && is_text pool (codes "Lorg/deuce/Atomic;") x.class) (at + 2) x.pairs next h.few h.pairs k (Takes-second bytes at (u2 x.class) (pairs_text x.pairs) next t) in
      rw (class, pairs) refl

  -- ---- attributes

  sound_of : (b : Bool) (every : List (Annotation (Shape V))) → OfFirst bytes (annotation_text text) (IsAnnotation pool Whole) (is_mark pool) (IsSoundMark pool) b every → HasSoundMark pool b every
  sound_of true every h = h
  sound_of false every h = tt

  of_sound : (b : Bool) (every : List (Annotation (Shape V))) → HasSoundMark pool b every → OfFirst bytes (annotation_text text) (IsAnnotation pool Whole) (is_mark pool) (IsSoundMark pool) b every
  of_sound true every h = h
  of_sound false every h = tt

  pub attribute_takes : IsBytes bytes → Reads bytes text Whole value → (first : Bool) (every : List (Annotation (Shape V))) → annotations_of pool value first bytes ≡ Ok every → SpellsAnnotations pool text Whole first bytes every
  unfolding annotations_of
  attribute_takes fits each first every e =
      let a = bind_ok (counted_until (is_mark pool) bytes (top_annotation_at pool value bytes) first 0) (λ every. cond (eqb every.1 (length bytes)) (Ok every.0) (Err every.1)) every e in
      let w = want_ok (eqb a.0.1 (length bytes)) a.0.1 (Ok a.0.0) every a.2 in
      let t = counted_until_take bytes (annotation_text text) (IsAnnotation pool Whole) (is_mark pool) (IsSoundMark pool) (top_annotation_at pool value bytes) fits (top_takes fits each) first 0 a.0 a.1 in
      let all : Takes bytes 0 (annotations_text text a.0.0) (length bytes) = subst (λ (k : ℕ). Takes bytes 0 (annotations_text text a.0.0) k) (eqb-true a.0.1 (length bytes) w.0) t.0 in
      let made : SpellsAnnotations pool text Whole first bytes a.0.0 = record { annotations = record { few = t.1; each = t.2; mark = sound_of first a.0.0 t.3 }; is = all-Takes bytes (annotations_text text a.0.0) all } in
      subst (λ (y : List (Annotation (Shape V))). SpellsAnnotations pool text Whole first bytes y) (ok_is a.0.0 every w.1) made

  pub attribute_again : Rereads bytes text Whole value → (first : Bool) (every : List (Annotation (Shape V))) → SpellsAnnotations pool text Whole first bytes every → annotations_of pool value first bytes ≡ Ok every
  unfolding annotations_of
  attribute_again each first every h =
      let all = counted_until_again bytes (annotation_text text) (IsAnnotation pool Whole) (is_mark pool) (IsSoundMark pool) (top_annotation_at pool value bytes) (top_again each) every first 0 (length bytes) h.annotations.few h.annotations.each (of_sound first every h.annotations.mark) (Takes-all bytes (annotations_text text every) h.is) in
      rw (all, eq-eqb (length bytes) (length bytes) refl) refl

bytes_of : (bytes : List ℕ) → AreBytes bytes → IsBytes bytes
bytes_of [] h i = omega arith
bytes_of (b ∷ bs) h zero = h.0
bytes_of (b ∷ bs) h (suc i) = bytes_of bs h.1 i

module _ (n : ℕ) (pool : Pool) where
  pub read_spells : (first : Bool) (bytes : List ℕ) (every : List (Annotation (Shape (Value n)))) → AreBytes bytes → annotations_of pool (value_at (suc n) pool bytes) first bytes ≡ Ok every → Spells n pool first bytes every
  unfolding value_text IsValue
  read_spells first bytes every h e = attribute_takes pool bytes (value_text n) (IsValue n pool) (value_at (suc n) pool bytes) (bytes_of bytes h) (value_takes pool bytes (bytes_of bytes h) (suc n)) first every e

  pub spelled_read : (first : Bool) (bytes : List ℕ) (every : List (Annotation (Shape (Value n)))) → Spells n pool first bytes every → annotations_of pool (value_at (suc n) pool bytes) first bytes ≡ Ok every
  unfolding value_text IsValue
  spelled_read first bytes every h = attribute_again pool bytes (value_text n) (IsValue n pool) (value_at (suc n) pool bytes) (value_again pool bytes (suc n)) first every h

  -- ---- all attributes

  abbrev pub AreFiled : List Attribute → Type 0
  AreFiled xs = AllByRecursion (λ (x : Attribute). AreBytes x.bytes) xs

  pub all_spell : (xs : List Attribute) (first : Bool) (every : List (Annotation (Shape (Value n)))) → AreFiled xs → all_annotations pool (value_at (suc n) pool) first xs ≡ Ok every → SpellAll n pool first xs every
  unfolding all_annotations
  all_spell [] first every h e = sym (ok_is [] every e)
  all_spell (x ∷ xs) first every h e =
      let a = bind_ok (annotations_of pool (value_at (suc n) pool x.bytes) first x.bytes) (λ every. all_annotations pool (value_at (suc n) pool) (first && not (list_any (is_mark pool) every)) xs >>= λ others. Ok (every ++ others)) every e in
      let b = bind_ok (all_annotations pool (value_at (suc n) pool) (first && not (list_any (is_mark pool) a.0)) xs) (λ others. Ok (a.0 ++ others)) every a.2 in
      (a.0, b.0, read_spells first x.bytes a.0 h.0 a.1, all_spell xs (first && not (list_any (is_mark pool) a.0)) b.0 h.1 b.1, sym (ok_is (a.0 ++ b.0) every b.2))

  pub all_read : (xs : List Attribute) (first : Bool) (every : List (Annotation (Shape (Value n)))) → SpellAll n pool first xs every → all_annotations pool (value_at (suc n) pool) first xs ≡ Ok every
  unfolding all_annotations
  all_read [] first every h = ap (λ (y : List (Annotation (Shape (Value n)))). Ok y) (sym h)
  all_read (x ∷ xs) first every h =
      let one = spelled_read first x.bytes h.0 h.2 in
      let others = all_read xs (first && not (list_any (is_mark pool) h.0)) h.1 h.3 in
      rw (one, others) (ap (λ (y : List (Annotation (Shape (Value n)))). Ok y) (sym h.4))

-- ---- a method's attributes

kept_filed : (p : Attribute → Bool) (xs : List Attribute) → AllByRecursion (λ (x : Attribute). AreBytes x.bytes) xs → AllByRecursion (λ (x : Attribute). AreBytes x.bytes) (filter p xs)
kept_filed p [] h = tt
kept_filed p (x ∷ xs) h = by_test (p x) (kept_filed p xs h.1) where
  by_test : (b : Bool) → AllByRecursion (λ (y : Attribute). AreBytes y.bytes) (filter p xs) → AllByRecursion (λ (y : Attribute). AreBytes y.bytes) (cond b (x ∷ filter p xs) (filter p xs))
  by_test true k = (h.0, k)
  by_test false k = k

both_filed : (xs ys : List Attribute) → AllByRecursion (λ (x : Attribute). AreBytes x.bytes) xs → AllByRecursion (λ (x : Attribute). AreBytes x.bytes) ys → AllByRecursion (λ (x : Attribute). AreBytes x.bytes) (xs ++ ys)
both_filed [] ys h k = k
both_filed (x ∷ xs) ys h k = (h.0, both_filed xs ys h.1 k)

pub attribute_law_holds : AttributeLaw
attribute_law_holds pool first bytes every h = (λ e. read_spells 15 pool first bytes every h e, λ s. spelled_read 15 pool first bytes every s)

pub mark_law_holds : MarkLaw
unfolding retries_in
mark_law_holds pool m h =
    let filed = both_filed (filter (is_named pool (codes "RuntimeVisibleAnnotations")) m.attributes) (filter (is_named pool (codes "RuntimeInvisibleAnnotations")) m.attributes) (kept_filed _ m.attributes h) (kept_filed _ m.attributes h) in
    by_read filed (all_annotations pool (value_at 16 pool) true (annotation_attributes pool m.attributes)) refl where
      by_read : AllByRecursion (λ (x : Attribute). AreBytes x.bytes) (annotation_attributes pool m.attributes) → (r : Result (List (Annotation (Value 16))) ℕ) → all_annotations pool (value_at 16 pool) true (annotation_attributes pool m.attributes) ≡ r
          → ((every : List (Annotation (Value 16))) × Annotates pool m every × (answer (r >>= λ every. Ok (marked_retries pool every)) ≡ granted (marked_retries pool every)))
          ⊎ ((at : ℕ) × (answer (r >>= λ every. Ok (marked_retries pool every)) ≡ Err (Bad at)) × ((every : List (Annotation (Value 16))) → Annotates pool m every → ⊥))
      by_read filed (Ok every) e = inl (every, all_spell 15 pool (annotation_attributes pool m.attributes) true every filed e, refl)
      by_read filed (Err at) e = inr (at, refl, λ every s. let ok = all_read 15 pool (annotation_attributes pool m.attributes) true every s in absurd cc)
