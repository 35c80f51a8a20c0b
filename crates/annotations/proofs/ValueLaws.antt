-- Values and annotations: what is read is spelled so, and what is spelled so is read.
use Rattle.std.proofs.Common.{◌≡◌, ℕ, zero, suc, ◌+◌, ◌^◌, ◌<◌, Bool, true, false, cond, eqb, List, ◌++◌, length, Result, Ok, Err, refl, sym, subst, arith}
use Rattle.std.specs.Int.{w8, to_be_bytes}
use Rattle.std.specs.List.{flat_map}
use Rattle.std.proofs.lemmas.Bool.{eqb-true}
use Rattle.jmodel.specs.format.ClassFile.{Pool, u2}
use Rattle.const_pool.proofs.Takes.{IsBytes, Takes, Takes-then, Takes-first, Takes-second}
use Rattle.jmodel.specs.format.Annotation.{Pair, Annotation, Shape, Single, Enum, Nested, Array, pair_text, annotation_text, shape_text, value_text}
use Rattle.jmodel.specs.format.AnnotationRules.{is_single, IsPair, IsAnnotation, IsShape, IsValue}
use Rattle.jmodel.specs.format.AnnotationReading.{◌>>=◌, u1_at, u2_at, text_at, counted_at, pair_at, annotation_at, single_at, enum_at, nested_at, array_at, tagged_at, shape_at, value_at}
use Rattle.annotations.proofs.FieldLaws.{bind_ok, ok_is, u1_takes, u1_again, u2_takes, u2_again, text_takes, text_again}
use Rattle.annotations.proofs.Items.{Reads, Rereads, counted_take, counted_again}

module _ {V : Type 0} (pool : Pool) (bytes : List ℕ) (spell : V → List ℕ) (Fits : V → Type 0) (value : ℕ → Result (V × ℕ) ℕ) where
  -- ---- pairs and annotations

  pub pair_takes : IsBytes bytes → Reads bytes spell Fits value → Reads bytes (pair_text spell) (IsPair pool Fits) (pair_at pool value bytes)
  unfolding pair_at
  pair_takes fits each at p next e =
      let a = bind_ok (text_at pool bytes at) (λ name. value name.1 >>= λ v. Ok (record { name = name.0; value = v.0 }, v.1)) (p, next) e in
      let b = bind_ok (value a.0.1) (λ v. Ok (record { name = a.0.0; value = v.0 }, v.1)) (p, next) a.2 in
      let t0 = text_takes bytes pool fits at a.0 a.1 in
      let t1 = each a.0.1 b.0.0 b.0.1 b.1 in
      let made : Pair V × ℕ = (record { name = a.0.0; value = b.0.0 }, b.0.1) in
      subst (λ (y : Pair V × ℕ). Takes bytes at (pair_text spell y.0) y.1 × IsPair pool Fits y.0) (ok_is made (p, next) b.2) (Takes-then bytes at (u2 a.0.0) a.0.1 (spell b.0.0) b.0.1 t0.0 t1.0, record { name = t0.1; value = t1.1 })

  pub pair_again : Rereads bytes spell Fits value → Rereads bytes (pair_text spell) (IsPair pool Fits) (pair_at pool value bytes)
  unfolding pair_at
  pair_again each at p next h t =
      let name = text_again bytes pool at p.name (at + 2) h.name (Takes-first bytes at (u2 p.name) (spell p.value) next t) in
      let v = each (at + 2) p.value next h.value (Takes-second bytes at (u2 p.name) (spell p.value) next t) in
      rw (name, v) refl

  pub annotation_takes : IsBytes bytes → Reads bytes spell Fits value → Reads bytes (annotation_text spell) (IsAnnotation pool Fits) (annotation_at pool value bytes)
  unfolding annotation_at
  annotation_takes fits each at x next e =
      let a = bind_ok (text_at pool bytes at) (λ class. counted_at bytes (pair_at pool value bytes) class.1 >>= λ pairs. Ok (record { class = class.0; pairs = pairs.0 }, pairs.1)) (x, next) e in
      let b = bind_ok (counted_at bytes (pair_at pool value bytes) a.0.1) (λ pairs. Ok (record { class = a.0.0; pairs = pairs.0 }, pairs.1)) (x, next) a.2 in
      let t0 = text_takes bytes pool fits at a.0 a.1 in
      let t1 = counted_take bytes (pair_text spell) (IsPair pool Fits) (pair_at pool value bytes) fits (pair_takes fits each) a.0.1 b.0 b.1 in
      let made : Annotation V × ℕ = (record { class = a.0.0; pairs = b.0.0 }, b.0.1) in
      subst (λ (y : Annotation V × ℕ). Takes bytes at (annotation_text spell y.0) y.1 × IsAnnotation pool Fits y.0) (ok_is made (x, next) b.2)
      (Takes-then bytes at (u2 a.0.0) a.0.1 (u2 (length b.0.0) ++ flat_map (pair_text spell) b.0.0) b.0.1 t0.0 t1.0, record { class = t0.1; few = t1.1; pairs = t1.2 })

  pub annotation_again : Rereads bytes spell Fits value → Rereads bytes (annotation_text spell) (IsAnnotation pool Fits) (annotation_at pool value bytes)
  unfolding annotation_at
  annotation_again each at x next h t =
      let class = text_again bytes pool at x.class (at + 2) h.class (Takes-first bytes at (u2 x.class) (u2 (length x.pairs) ++ flat_map (pair_text spell) x.pairs) next t) in
      let pairs = counted_again bytes (pair_text spell) (IsPair pool Fits) (pair_at pool value bytes) (pair_again each) x.pairs (at + 2) next h.few h.pairs (Takes-second bytes at (u2 x.class) (u2 (length x.pairs) ++ flat_map (pair_text spell) x.pairs) next t) in
      rw (class, pairs) refl

  -- ---- what stands behind a tag

  -- a shape that stands behind its tag
  pub record Behind (tag start : ℕ) (s : Shape V) (next : ℕ) : Type 0 where
    pub rest : List ℕ
    pub text : shape_text spell s ≡ to_be_bytes w8 tag ++ rest
    pub takes : Takes bytes start rest next
    pub fits : tag < 2 ^ 8 → IsShape pool Fits s

  single_behind : IsBytes bytes → (tag at : ℕ) (x : Shape V × ℕ) → is_single tag ≡ true → single_at tag bytes at ≡ Ok x → Behind tag at x.0 x.1
  unfolding single_at
  single_behind fits tag at x h e =
      let a = bind_ok (u2_at bytes at) (λ index. Ok (Single tag index.0, index.1)) x e in
      let t = u2_takes bytes fits at a.0 a.1 in
      subst (λ (y : Shape V × ℕ). Behind tag at y.0 y.1) (ok_is (Single tag a.0.0, a.0.1) x a.2) (record { rest = u2 a.0.0; text = refl; takes = t.0; fits = λ lt. (h, lt, t.1) })

  enum_behind : IsBytes bytes → (at : ℕ) (x : Shape V × ℕ) → enum_at bytes at ≡ Ok x → Behind 101 at x.0 x.1
  unfolding enum_at
  enum_behind fits at x e =
      let a = bind_ok (u2_at bytes at) (λ class. u2_at bytes class.1 >>= λ name. Ok (Enum class.0 name.0, name.1)) x e in
      let b = bind_ok (u2_at bytes a.0.1) (λ name. Ok (Enum a.0.0 name.0, name.1)) x a.2 in
      let t0 = u2_takes bytes fits at a.0 a.1 in
      let t1 = u2_takes bytes fits a.0.1 b.0 b.1 in
      subst (λ (y : Shape V × ℕ). Behind 101 at y.0 y.1) (ok_is (Enum a.0.0 b.0.0, b.0.1) x b.2)
      (record { rest = u2 a.0.0 ++ u2 b.0.0; text = refl; takes = Takes-then bytes at (u2 a.0.0) a.0.1 (u2 b.0.0) b.0.1 t0.0 t1.0; fits = λ lt. (t0.1, t1.1) })

  nested_behind : IsBytes bytes → Reads bytes spell Fits value → (at : ℕ) (x : Shape V × ℕ) → nested_at pool value bytes at ≡ Ok x → Behind 64 at x.0 x.1
  unfolding nested_at
  nested_behind fits each at x e =
      let a = bind_ok (annotation_at pool value bytes at) (λ a. Ok (Nested a.0, a.1)) x e in
      let t = annotation_takes fits each at a.0.0 a.0.1 a.1 in
      subst (λ (y : Shape V × ℕ). Behind 64 at y.0 y.1) (ok_is (Nested a.0.0, a.0.1) x a.2) (record { rest = annotation_text spell a.0.0; text = refl; takes = t.0; fits = λ lt. t.1 })

  array_behind : IsBytes bytes → Reads bytes spell Fits value → (at : ℕ) (x : Shape V × ℕ) → array_at value bytes at ≡ Ok x → Behind 91 at x.0 x.1
  unfolding array_at
  array_behind fits each at x e =
      let a = bind_ok (counted_at bytes value at) (λ values. Ok (Array values.0, values.1)) x e in
      let t = counted_take bytes spell Fits value fits each at a.0 a.1 in
      subst (λ (y : Shape V × ℕ). Behind 91 at y.0 y.1) (ok_is (Array a.0.0, a.0.1) x a.2) (record { rest = u2 (length a.0.0) ++ flat_map spell a.0.0; text = refl; takes = t.0; fits = λ lt. (t.1, t.2) })

  by_tag : (tag k at : ℕ) (x : Shape V × ℕ) → eqb tag k ≡ true → Behind k at x.0 x.1 → Behind tag at x.0 x.1
  by_tag tag k at x h b = subst (λ (n : ℕ). Behind n at x.0 x.1) (sym (eqb-true tag k h)) b

  tagged_behind : IsBytes bytes → Reads bytes spell Fits value → (start tag at : ℕ) (x : Shape V × ℕ) → tagged_at pool value bytes start tag at ≡ Ok x → Behind tag at x.0 x.1
  unfolding tagged_at
  tagged_behind fits each start tag at x e = by_single (is_single tag) refl e where
    by_array : (b : Bool) → eqb tag 91 ≡ b → cond b (array_at value bytes at) (Err start) ≡ Ok x → Behind tag at x.0 x.1
    by_array true h e = by_tag tag 91 at x h (array_behind fits each at x e)
    by_array false h e = absurd cc

    by_nested : (b : Bool) → eqb tag 64 ≡ b → cond b (nested_at pool value bytes at) (cond (eqb tag 91) (array_at value bytes at) (Err start)) ≡ Ok x → Behind tag at x.0 x.1
    by_nested true h e = by_tag tag 64 at x h (nested_behind fits each at x e)
    by_nested false h e = by_array (eqb tag 91) refl e

    by_enum : (b : Bool) → eqb tag 101 ≡ b → cond b (enum_at bytes at) (cond (eqb tag 64) (nested_at pool value bytes at) (cond (eqb tag 91) (array_at value bytes at) (Err start))) ≡ Ok x → Behind tag at x.0 x.1
    by_enum true h e = by_tag tag 101 at x h (enum_behind fits at x e)
    by_enum false h e = by_nested (eqb tag 64) refl e

    by_single : (b : Bool) → is_single tag ≡ b → cond b (single_at tag bytes at) (cond (eqb tag 101) (enum_at bytes at) (cond (eqb tag 64) (nested_at pool value bytes at) (cond (eqb tag 91) (array_at value bytes at) (Err start)))) ≡ Ok x → Behind tag at x.0 x.1
    by_single true h e = single_behind fits tag at x h e
    by_single false h e = by_enum (eqb tag 101) refl e

  -- ---- values

  pub shape_takes : IsBytes bytes → Reads bytes spell Fits value → Reads bytes (shape_text spell) (IsShape pool Fits) (shape_at pool value bytes)
  unfolding shape_at
  shape_takes fits each at s next e =
      let a = bind_ok (u1_at bytes at) (λ tag. tagged_at pool value bytes at tag.0 tag.1) (s, next) e in
      let t = u1_takes bytes fits at a.0 a.1 in
      let b = tagged_behind fits each at a.0.0 a.0.1 (s, next) a.2 in
      (rw b.text (Takes-then bytes at (to_be_bytes w8 a.0.0) a.0.1 b.rest next t.0 b.takes), b.fits t.1)

  -- what stands behind a tag, and the tag, are read
  with_tag : (tag : ℕ) (rest : List ℕ) (at : ℕ) (s : Shape V) (next : ℕ) → tag < 2 ^ 8 → Takes bytes at (to_be_bytes w8 tag ++ rest) next → (Takes bytes (at + 1) rest next → tagged_at pool value bytes at tag (at + 1) ≡ Ok (s, next)) → shape_at pool value bytes at ≡ Ok (s, next)
  unfolding shape_at
  with_tag tag rest at s next lt t read =
      rw (u1_again bytes at tag (at + 1) lt (Takes-first bytes at (to_be_bytes w8 tag) rest next t)) (read (Takes-second bytes at (to_be_bytes w8 tag) rest next t))

  pub shape_again : Rereads bytes spell Fits value → Rereads bytes (shape_text spell) (IsShape pool Fits) (shape_at pool value bytes)
  unfolding tagged_at single_at enum_at nested_at array_at
  shape_again each at (Single tag index) next h t = with_tag tag (u2 index) at (Single tag index) next h.1 t (λ r. rw (h.0, u2_again bytes (at + 1) index next h.2 r) refl)
  shape_again each at (Enum class name) next h t = with_tag 101 (u2 class ++ u2 name) at (Enum class name) next (omega arith) t
      (λ r. rw (u2_again bytes (at + 1) class (at + 1 + 2) h.0 (Takes-first bytes (at + 1) (u2 class) (u2 name) next r), u2_again bytes (at + 1 + 2) name next h.1 (Takes-second bytes (at + 1) (u2 class) (u2 name) next r)) refl)
  shape_again each at (Nested a) next h t = with_tag 64 (annotation_text spell a) at (Nested a) next (omega arith) t (λ r. rw (annotation_again each (at + 1) a next h r) refl)
  shape_again each at (Array vs) next h t = with_tag 91 (u2 (length vs) ++ flat_map spell vs) at (Array vs) next (omega arith) t (λ r. rw (counted_again bytes spell Fits value each vs (at + 1) next h.0 h.1 r) refl)

module _ (pool : Pool) (bytes : List ℕ) where
  pub value_takes : IsBytes bytes → (n : ℕ) → Reads bytes (value_text n) (IsValue n pool) (value_at n pool bytes)
  unfolding value_at value_text IsValue
  value_takes fits zero = λ at v next e. absurd v
  value_takes fits (suc n) = shape_takes pool bytes (value_text n) (IsValue n pool) (value_at n pool bytes) fits (value_takes fits n)

  pub value_again : (n : ℕ) → Rereads bytes (value_text n) (IsValue n pool) (value_at n pool bytes)
  unfolding value_at value_text IsValue
  value_again zero = λ at v next h t. absurd v
  value_again (suc n) = shape_again pool bytes (value_text n) (IsValue n pool) (value_at n pool bytes) (value_again n)
