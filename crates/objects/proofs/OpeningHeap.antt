-- The objects before the first call have types of the program, and hold values of these.
use Rattle.std.proofs.Common.{◌≡◌, ◌⊎◌, inl, inr, ℕ, ℤ, zero, suc, ◌+◌, ◌<◌, ◌≤◌, List, [], ◌∷◌, ◌++◌, length, map, take, Bool, true, false, not, nat_le, nat_lt, Option, Some, None, refl, sym, ap, subst, ◌∙◌, arith, lit<}
use Rattle.std.specs.Prelude.{slice_get, filter, find, position, cond, codes, bytes_eq, pos, if◌then◌else◌, option_map, option_and_then, unwrap_or, ◌==◌, FitsSigned}
use Rattle.std.specs.List.{AllByRecursion}
use Rattle.std.specs.Int.{w32, w64}
use Rattle.std.proofs.lemmas.Int.{ints}
use Rattle.std.proofs.lemmas.Bool.Decides.{nat_tests}
use Rattle.std.proofs.lemmas.Slice.Eq.{bytes_eq-Decides}
use Rattle.std.proofs.lemmas.List.{length-map, length-append}
use Rattle.std.proofs.Math.Seq.{take-append_seam}
use Rattle.jmodel.specs.declared.class_file.Constant.{Constant}
use Rattle.jmodel.specs.declared.class_file.Constant.TheVariants as constants
use Rattle.jmodel.specs.declared.class_file.FieldType.{FieldType}
use Rattle.jmodel.specs.declared.class_file.FieldType.TheVariants as field
use Rattle.jmodel.specs.declared.typing.VType.TheVariants as type
use Rattle.jmodel.specs.format.ClassFile.{Attribute, Member, Pool, ClassFile}
use Rattle.jmodel.specs.format.ClassRules.{IsConstant, is_named}
use Rattle.jmodel.specs.format.Constants.{as_int, integer_in, long_in, named_entry, pair_number, constant_of, int_value, long_value}
use Rattle.objects.specs.linking.Library.{library}
use Rattle.objects.specs.linking.Members.{is_static, statics}
use Rattle.objects.specs.linking.StaticBases.{has_base, base_of, bases_end, base_type}
use Rattle.objects.specs.linking.Superclasses.{super_name}
use Rattle.objects.proofs.StaticBases.{IsRest, all_rest, next_rest}
use Rattle.objects.specs.declared.op.WordType.TheVariants as word
use Rattle.objects.specs.linking.LibraryClasses.{library_rows, under, object}
use Rattle.objects.specs.semantics.Program.{Declared, Row, Field, Program, row_at}
use Rattle.objects.specs.typing.TypeOrder.{string_class, IsWithin}
use Rattle.objects.specs.semantics.State.{Object, State}
use Rattle.objects.specs.linking.Resolution.{is_interface}
use Rattle.objects.specs.linking.Constructs.{is_floating}
use Rattle.objects.specs.linking.Layout.{rows, class_row, base_rows, array_row, primitive_arrays, made_arrays, nameless, static_words, referred, declared_as, field_type, words_upward, field_record, if_not, fields_behind, class_fields, fields_from, fields_of, texts_of, places_from, text_places, text_place, fixed_words, constant_text, int_or_zero, first_value, opening_value, statics_object, text_object, text_at, base_at, either, opening_state}
use Rattle.objects.specs.history.Meaning.{IsObjectOf, IsReferenceTo, IsHeld, AreHeld, IsTyped, HasBase, IsFieldHeld}
use Rattle.objects.specs.laws.LinkingLaw.{AreRead}
use Rattle.objects.proofs.Items.{IsAt, item, all_items, placed}
use Rattle.objects.proofs.Places.{get_back, get_front, get_map}
use Rattle.objects.proofs.AsRead.{entry_at, is_file}
use Rattle.objects.proofs.WordTypes.{narrowed_number}
use Rattle.objects.proofs.OpeningWords.{Known, known_all, IsText, object_known, Sees, sees_next, seen_here}

-- ---- lists

-- an item of the second of four lists
deep : {A : Type 0} (a b c d : List A) (k : ℕ) (x : A) → slice_get b k ≡ Some x → slice_get (((a ++ b) ++ c) ++ d) (length a + k) ≡ Some x
deep a b c d k x e = get_front ((a ++ b) ++ c) d (length a + k) x (get_front (a ++ b) c (length a + k) x (get_back a b k ∙ e))

-- where an item that passes stands among those that do
filter_place : {A : Type 0} (p : A → Bool) (front : List A) (x : A) (behind : List A) → p x ≡ true → slice_get (filter p (front ++ x ∷ behind)) (length (filter p front)) ≡ Some x
filter_place p [] x behind is = rw is refl
filter_place p (y ∷ front) x behind is = go (p y) (filter_place p front x behind is)
  where
    go : (b : Bool) → slice_get (filter p (front ++ x ∷ behind)) (length (filter p front)) ≡ Some x → slice_get (cond b (y ∷ filter p (front ++ x ∷ behind)) (filter p (front ++ x ∷ behind))) (length (cond b (y ∷ filter p front) (filter p front))) ≡ Some x
    go true e = e
    go false e = e

-- ---- numbers in a pool

int_fits : (n : ℤ) → FitsSigned w32 (as_int n)
int_fits n = omega (arith, ints)

zero_int : FitsSigned w32 (pos 0)
zero_int = record { sfits = lit< tt }

zero_long : FitsSigned w64 (pos 0)
zero_long = record { sfits = lit< tt }

int_small : (o : Option Constant) → FitsSigned w32 (int_or_zero (option_and_then integer_in o))
int_small None = zero_int
int_small (Some (constants.Integer n)) = int_fits n
int_small (Some k) = zero_int

long_small : (pool : Pool) → AllByRecursion (IsConstant pool) pool → (o : Option Constant) → ((k : Constant) → o ≡ Some k → IsAt pool k) → FitsSigned w64 (int_or_zero (option_and_then long_in o))
long_small pool fits None h = zero_long
long_small pool fits (Some (constants.Long n)) h = item (IsConstant pool) pool (constants.Long n) fits (h (constants.Long n) refl)
long_small pool fits (Some k) h = zero_long

constant_there : (pool : Pool) (m : Member) (k : Constant) → constant_of pool m ≡ Some k → IsAt pool k
constant_there pool m k e = go (find (is_named pool (codes "ConstantValue")) m.attributes) e
  where
    by : (bytes : List ℕ) → named_entry pool bytes ≡ Some k → IsAt pool k
    by [] e = cc
    by (a ∷ []) e = cc
    by (a ∷ b ∷ []) e = entry_at pool (pair_number a b) k e
    by (a ∷ b ∷ c ∷ bs) e = cc

    go : (o : Option Attribute) → option_and_then (λ (a : Attribute). named_entry pool a.bytes) o ≡ Some k → IsAt pool k
    go None e = cc
    go (Some a) e = by a.bytes e

module _ (cs : List ClassFile) (P : Program) (read : AreRead cs) (rows_are : P.types ≡ rows cs) (fields_are : P.fields ≡ fields_of cs) (texts_are : P.texts ≡ text_places cs)
    (string_itself : IsWithin P (type.Ref string_class) (type.Ref string_class)) where
  abbrev state : State
  state = opening_state cs

  -- ---- string constants

  string_row : row_at P 2 ≡ Some (under object (codes "String"))
  string_row = ap (λ (rs : List Row). slice_get rs 1) rows_are

  bases_below : (r : ℕ) → bases_end cs ≤ r → (o : Object) → base_at cs 0 cs r ≡ Some o → ⊥
  bases_below r less o e = let k = known_all cs r o e in let end = k.to in absurd (omega (arith, end, less))

  text_there : (i : ℕ) → i < length (texts_of cs) → state.objects (bases_end cs + i) ≡ Some text_object
  text_there i less = go (base_at cs 0 cs (bases_end cs + i)) refl
    where
      here : text_at cs (bases_end cs + i) ≡ Some text_object
      here =
          let low : nat_le (bases_end cs) (bases_end cs + i) ≡ true = grind (arith, nat_tests) in
          let high : nat_lt (bases_end cs + i) (fixed_words cs) ≡ true = let h : bases_end cs + i < bases_end cs + length (texts_of cs) = omega (arith, less) in grind (arith, nat_tests) in
          rw (low, high) refl

      go : (b : Option Object) → base_at cs 0 cs (bases_end cs + i) ≡ b → either b (text_at cs (bases_end cs + i)) ≡ Some text_object
      go (Some o) e = absurd (bases_below (bases_end cs + i) (omega arith) o e)
      go None e = here

  text_object_of : (i : ℕ) → i < length (texts_of cs) → IsObjectOf P state string_class (bases_end cs + i)
  text_object_of i less = record { object = text_object; row = under object (codes "String"); there = text_there i less; is = string_row; below = string_itself }

  texts_from : (k : ℕ) (ts : List (List ℕ)) → ((i : ℕ) → i < length ts → IsObjectOf P state string_class (k + i)) → AllByRecursion (IsObjectOf P state string_class) (places_from k ts)
  texts_from k [] h = tt
  texts_from k (t ∷ ts) h =
      let here : k + 0 ≡ k = omega arith in (
        subst (IsObjectOf P state string_class) here (h 0 (omega arith)),
        texts_from (suc k) ts (λ i less. let next : k + suc i ≡ suc k + i = omega arith in subst (IsObjectOf P state string_class) next (h (suc i) (omega (arith, less)))),
      )

  pub texts_held : AllByRecursion (IsObjectOf P state string_class) P.texts
  texts_held = subst (AllByRecursion (IsObjectOf P state string_class)) (sym texts_are) (texts_from (bases_end cs) (texts_of cs) text_object_of)

  -- ---- values of static fields

  reference_held : (n : List ℕ) (o : Option (List ℕ)) → IsReferenceTo P state (referred cs (field.Reference n)) (if bytes_eq n string_class then unwrap_or (option_and_then (text_place cs) o) 0 else 0)
  reference_held n o = go (bytes_eq n string_class) refl
    where
      at : (m : List ℕ) (r : ℕ) → IsObjectOf P state m r → IsReferenceTo P state m r
      at m zero h = tt
      at m (suc r) h = h

      place : (t : List ℕ) (p : Option ℕ) → position (bytes_eq t) (texts_of cs) ≡ p → IsReferenceTo P state string_class (unwrap_or (option_map (λ i. bases_end cs + i) p) 0)
      place t None e = tt
      place t (Some i) e = at string_class (bases_end cs + i) (text_object_of i (placed (bytes_eq t) (texts_of cs) i e).3)

      text : (o : Option (List ℕ)) → IsReferenceTo P state string_class (unwrap_or (option_and_then (text_place cs) o) 0)
      text None = tt
      text (Some t) = place t (position (bytes_eq t) (texts_of cs)) refl

      go : (b : Bool) → bytes_eq n string_class ≡ b → IsReferenceTo P state (referred cs (field.Reference n)) (if b then unwrap_or (option_and_then (text_place cs) o) 0 else 0)
      go false e = tt
      go true e = subst (λ n. IsReferenceTo P state (referred cs (field.Reference n)) (unwrap_or (option_and_then (text_place cs) o) 0)) (sym ((bytes_eq-Decides n string_class).0 e)) (text o)

  value_held : (c : ClassFile) → IsAt cs c → (m : Member) → IsHeld P state (declared_as cs (field_type c.pool m)) (opening_value cs c.pool m)
  value_held c at m = by (field_type c.pool m)
    where
      int : FitsSigned w32 (int_or_zero (int_value c.pool m))
      int = int_small (constant_of c.pool m)

      long : FitsSigned w64 (int_or_zero (long_value c.pool m))
      long = long_small c.pool (is_file cs read c at).pool.entries (constant_of c.pool m) (constant_there c.pool m)

      by : (t : FieldType) → IsHeld P state (declared_as cs t) (first_value cs c.pool m t)
      by field.Boolean = narrowed_number word.Boolean (int_or_zero (int_value c.pool m)) tt int
      by field.Byte = narrowed_number word.Byte (int_or_zero (int_value c.pool m)) tt int
      by field.Char = narrowed_number word.Char (int_or_zero (int_value c.pool m)) tt int
      by field.Short = narrowed_number word.Short (int_or_zero (int_value c.pool m)) tt int
      by field.Int = int
      by field.Long = long
      by field.Float = zero_int
      by field.Double = zero_int
      by (field.Reference n) = reference_held n (constant_text c.pool m)

  all_held : (c : ClassFile) → IsAt cs c → (ms : List Member) → AreHeld P state (map (λ m. declared_as cs (field_type c.pool m)) ms) (map (opening_value cs c.pool) ms)
  all_held c at [] = tt
  all_held c at (m ∷ ms) = (value_held c at m, all_held c at ms)

  -- ---- types

  rest_at : (n : ℕ) (d : ClassFile) (ds : List ClassFile) → IsRest cs n (d ∷ ds) → IsAt cs d
  rest_at n d ds h = (length h.front, subst (λ (l : List ClassFile). slice_get l (length h.front) ≡ Some d) h.whole (at h.front))
    where
      at : (xs : List ClassFile) → slice_get (xs ++ d ∷ ds) (length xs) ≡ Some d
      at [] = refl
      at (x ∷ xs) = at xs

  base_row : (n : ℕ) (d : ClassFile) (ds : List ClassFile) → IsRest cs n (d ∷ ds) → has_base d ≡ true → row_at P (base_type cs n) ≡ Some (nameless (static_words cs d))
  base_row n d ds h some =
      let number : base_type cs n ≡ suc (length (library_rows ++ map (class_row cs) cs) + length (filter has_base (take n cs))) =
      (let l = length-append library_rows (map (class_row cs) cs) in let m : length (map (class_row cs) cs) ≡ length cs = length-map _ _ in let a : length library ≡ 20 = refl in let b : length library_rows ≡ 20 = refl in omega (arith, l, m, a, b)) in
      let cut : take n cs ≡ h.front = ap (λ (j : ℕ). take j cs) (sym h.many) ∙ ap (take (length h.front)) (sym h.whole) ∙ take-append_seam h.front (d ∷ ds) in
      let among : slice_get (filter has_base cs) (length (filter has_base (take n cs))) ≡ Some d =
      ap (λ (l : List ClassFile). slice_get (filter has_base cs) (length (filter has_base l))) cut ∙ ap (λ (l : List ClassFile). slice_get (filter has_base l) (length (filter has_base h.front))) (sym h.whole) ∙ filter_place has_base h.front d ds some in
      let base : slice_get (base_rows cs) (length (filter has_base (take n cs))) ≡ Some (nameless (static_words cs d)) = get_map (λ c. nameless (static_words cs c)) (filter has_base cs) (length (filter has_base (take n cs))) d among in
      let whole : slice_get (rows cs) (length (library_rows ++ map (class_row cs) cs) + length (filter has_base (take n cs))) ≡ Some (nameless (static_words cs d)) =
      deep (library_rows ++ map (class_row cs) cs) (base_rows cs) (map (array_row cs) primitive_arrays) (map (array_row cs) (made_arrays cs)) (length (filter has_base (take n cs))) (nameless (static_words cs d)) base in
      ap (row_at P) number ∙ ap (λ (rs : List Row). slice_get rs (length (library_rows ++ map (class_row cs) cs) + length (filter has_base (take n cs)))) rows_are ∙ whole

  pub typed : (r : ℕ) (o : Object) → state.objects r ≡ Some o → IsTyped P state o
  typed r o e = elim (object_known cs r o e) [ inl k ↦ base k | inr t ↦ text t ]
    where
      base : Known cs 0 cs r o → IsTyped P state o
      base k = subst (IsTyped P state) (sym k.is) (record {
        row = nameless (static_words cs k.class);
        is = base_row k.number k.class k.behind k.rest k.some;
        holds = all_held k.class (rest_at k.number k.class k.behind k.rest) (statics k.class);
      })

      text : IsText cs r o → IsTyped P state o
      text t = subst (IsTyped P state) (sym t.is) (record { row = under object (codes "String"); is = string_row; holds = tt })

  -- ---- fields

  -- a static field with its place among those of its class
  record IsStatic (n : ℕ) (c : ClassFile) (s : ℕ) (ms : List Member) (F : Field) : Type 0 where
    base : F.base ≡ Some (base_of cs n)
    place : ℕ
    index : F.index ≡ s + place
    declared : slice_get (map (λ m. declared_as cs (field_type c.pool m)) (filter is_static ms)) place ≡ Some F.declared

  abbrev Places : ℕ → ClassFile → ℕ → List Member → Field → Type 0
  Places n c s ms F = (F.base ≡ None) ⊎ IsStatic n c s ms F

  static_place : (n : ℕ) (c : ClassFile) (s w : ℕ) (ms : List Member) (F : Field) → IsAt (fields_behind cs n c s w ms) F → Places n c s ms F
  static_place n c s w [] F h = cc
  static_place n c s w (m ∷ ms) F h = go (is_static m) refl h (λ k. static_place n c (suc s) w ms F k) (λ k. static_place n c s (suc w) ms F k)
    where
      shown : (Rule : Type 0) (b : Bool) (x : Field) (xs : List Field) → IsAt (if_not b x xs) F → (x ≡ F → Rule) → (IsAt xs F → Rule) → Rule
      shown Rule true x xs h first later = later h
      shown Rule false x xs h first later = by h.0 h.1
        where
          by : (i : ℕ) → slice_get (x ∷ xs) i ≡ Some F → Rule
          by zero e = first (cc)
          by (suc i) e = later (i, e)

      own : is_static m ≡ true → field_record cs n c m s ≡ F → Places n c s (m ∷ ms) F
      own is same = inr (record {
        base = ap (λ (F : Field). F.base) (sym same) ∙ ap (λ b. if b then Some (base_of cs n) else None) is;
        place = 0;
        index = (let e : s ≡ F.index = ap (λ (F : Field). F.index) same in omega (arith, e));
        declared = (rw is (ap (λ (F : Field). Some F.declared) same));
      })

      object_field : is_static m ≡ false → field_record cs n c m w ≡ F → Places n c s (m ∷ ms) F
      object_field is same = inl (ap (λ (F : Field). F.base) (sym same) ∙ ap (λ b. if b then Some (base_of cs n) else None) is)

      after_static : is_static m ≡ true → Places n c (suc s) ms F → Places n c s (m ∷ ms) F
      after_static is (inl e) = inl e
      after_static is (inr r) = inr (record { base = r.base; place = suc r.place; index = (let i = r.index in omega (arith, i)); declared = (rw is r.declared) })

      after_object : is_static m ≡ false → Places n c s ms F → Places n c s (m ∷ ms) F
      after_object is (inl e) = inl e
      after_object is (inr r) = inr (record { base = r.base; place = r.place; index = r.index; declared = (rw is r.declared) })

      go : (b : Bool) → is_static m ≡ b
          → IsAt (if b then if_not (is_floating (field_type c.pool m)) (field_record cs n c m s) (fields_behind cs n c (suc s) w ms)
          else if_not (is_floating (field_type c.pool m)) (field_record cs n c m w) (fields_behind cs n c s (suc w) ms)) F
          → (IsAt (fields_behind cs n c (suc s) w ms) F → Places n c (suc s) ms F) → (IsAt (fields_behind cs n c s (suc w) ms) F → Places n c s ms F) → Places n c s (m ∷ ms) F
      go true is h statics words = shown (Places n c s (m ∷ ms) F) (is_floating (field_type c.pool m)) (field_record cs n c m s) (fields_behind cs n c (suc s) w ms) h (own is) (λ k. after_static is (statics k))
      go false is h statics words = shown (Places n c s (m ∷ ms) F) (is_floating (field_type c.pool m)) (field_record cs n c m w) (fields_behind cs n c s (suc w) ms) h (object_field is) (λ k. after_object is (words k))

  held_one : (n : ℕ) (d : ClassFile) (ds : List ClassFile) → IsRest cs n (d ∷ ds) → Sees cs n (d ∷ ds) → (F : Field) → Places n d 0 d.fields F → IsFieldHeld P state F
  held_one n d ds rest sees F (inl e) = subst (λ (o : Option ℕ). HasBase P state o F) (sym e) tt
  held_one n d ds rest sees F (inr r) =
      let some : has_base d ≡ true = filled (statics d) (map (λ m. declared_as cs (field_type d.pool m)) (statics d)) r.place F.declared (length-map _ _) r.declared in
      let index : F.index ≡ r.place = let i = r.index in omega (arith, i) in
      subst (λ (o : Option ℕ). HasBase P state o F) (sym r.base) (record {
        base = statics_object cs n d;
        row = nameless (static_words cs d);
        words = static_words cs d;
        there = seen_here cs n d ds sees some;
        is = base_row n d ds rest some;
        holds = refl;
        place = ap (slice_get (static_words cs d)) index ∙ r.declared;
      })
    where
      filled : (ms : List Member) (ws : List Declared) (i : ℕ) (w : Declared) → length ws ≡ length ms → slice_get ws i ≡ Some w → not (length ms == 0) ≡ true
      filled [] [] i w long e = cc
      filled [] (x ∷ ws) i w long e = absurd (omega (arith, long))
      filled (m ∷ ms) ws i w long e = let some : 0 < length (m ∷ ms) = omega arith in grind (arith, nat_tests)

  held : (n : ℕ) (ds : List ClassFile) → IsRest cs n ds → Sees cs n ds → AllByRecursion (IsFieldHeld P state) (fields_from cs n ds)
  held n [] rest sees = tt
  held n (d ∷ ds) rest sees = both_all (class_fields cs n d) (fields_from cs (suc n) ds) (own (is_interface d)) (held (suc n) ds (next_rest cs n d ds rest) (sees_next cs n d ds rest sees))
    where
      own : (b : Bool) → AllByRecursion (IsFieldHeld P state) (if b then [] else fields_behind cs n d 0 (length (words_upward cs (super_name d))) d.fields)
      own true = tt
      own false = all_items (IsFieldHeld P state) _ (λ F at. held_one n d ds rest sees F (static_place n d 0 (length (words_upward cs (super_name d))) d.fields F at))

      both_all : (xs ys : List Field) → AllByRecursion (IsFieldHeld P state) xs → AllByRecursion (IsFieldHeld P state) ys → AllByRecursion (IsFieldHeld P state) (xs ++ ys)
      both_all [] ys a b = b
      both_all (x ∷ xs) ys a b = (a.0, both_all xs ys a.1 b)

  pub fields_held : AllByRecursion (IsFieldHeld P state) P.fields
  fields_held = subst (AllByRecursion (IsFieldHeld P state)) (sym fields_are) (held 0 cs (all_rest cs) (λ r less. refl))
