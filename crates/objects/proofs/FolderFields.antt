-- The fields that Layout makes of a folder stand among the words of their classes.
use Rattle.std.proofs.Common.{◌≡◌, ◌⊎◌, inl, inr, ℕ, zero, suc, ◌+◌, List, [], ◌∷◌, ◌++◌, length, map, Some, None, Bool, true, false, not, refl, sym, ap, ◌∙◌, arith}
use Rattle.std.specs.Prelude.{slice_get, filter, find, bytes_eq, if◌then◌else◌}
use Rattle.std.specs.List.{AllByRecursion}
use Rattle.jmodel.specs.format.ClassFile.{Member, ClassFile}
use Rattle.objects.specs.linking.Members.{is_static, own_name}
use Rattle.objects.specs.linking.StaticBases.{base_of}
use Rattle.objects.specs.linking.Superclasses.{class_named, super_name}
use Rattle.objects.specs.linking.Classes.{doubled_class}
use Rattle.objects.specs.semantics.Program.{Declared, Row, Field, Method, Program, row_at, field_at}
use Rattle.objects.specs.linking.LibraryClasses.{library_rows}
use Rattle.objects.specs.linking.LibraryMethods.{is_library}
use Rattle.objects.specs.typing.TypeOrder.{context_class, conflict_class, is_class_name}
use Rattle.objects.specs.linking.Resolution.{is_interface, holds_of}
use Rattle.objects.specs.linking.Constructs.{is_floating}
use Rattle.objects.specs.linking.ClassesFaults.{supers_fault}
use Rattle.objects.specs.laws.LinkingLaw.{IsUpward}
use Rattle.objects.specs.typing.Source.{IsDeclared, AreTypes}
use Rattle.objects.specs.linking.Layout.{class_row, declared_as, field_type, own_words, words_upward, field_record, if_not, fields_behind, class_fields, fields_from, fields_of}
use Rattle.objects.proofs.Places.{get_back}
use Rattle.objects.specs.linking.Library.{library as library_names}
use Rattle.objects.proofs.ClassRows.{find_back, found_at, found_by_name, is_row}
use Rattle.objects.proofs.LibraryRows.{IsRow, traps, conflict, context, string}
use Rattle.objects.proofs.ClassTypes.{new_to_library, none_found, words_step, is_class}
use Rattle.objects.proofs.FolderRows.{parted, IsArrayOf, behind, Q, no_classes, each_row}

-- a field that isn't static, among the words of its own class
pub record IsOwn (cs : List ClassFile) (c : ClassFile) (w : ℕ) (ms : List Member) (f : Field) : Type 0 where
  pub class : f.class ≡ own_name c
  pub place : ℕ
  pub index : f.index ≡ w + place
  pub word : slice_get (map (λ m. declared_as cs (field_type c.pool m)) (filter (λ m. not (is_static m)) ms)) place ≡ Some f.declared

-- of a list with one more, which is left out or not, an item is that one, or one of the others
shown : {A : Type 0} (Rule : Type 0) (b : Bool) (x : A) (xs : List A) (i : ℕ) (y : A) → slice_get (if_not b x xs) i ≡ Some y → (x ≡ y → Rule) → ((j : ℕ) → slice_get xs j ≡ Some y → Rule) → Rule
shown Rule true x xs i y e first later = later i e
shown Rule false x xs zero y e first later = first (cc)
shown Rule false x xs (suc i) y e first later = later i e

own_field : (cs : List ClassFile) (n : ℕ) (c : ClassFile) (s w : ℕ) (ms : List Member) (i : ℕ) (f : Field) → slice_get (fields_behind cs n c s w ms) i ≡ Some f → f.base ≡ None → IsOwn cs c w ms f
own_field cs n c s w [] i f e base = cc
own_field cs n c s w (m ∷ ms) i f e base = go (is_static m) refl e (λ j h. own_field cs n c (suc s) w ms j f h base) (λ j h. own_field cs n c s (suc w) ms j f h base)
  where
    static_based : (b : Bool) (k : ℕ) → is_static m ≡ b → b ≡ true → (field_record cs n c m k).base ≡ None → ⊥
    static_based true k is t none = let fall : Some (base_of cs n) ≡ None = sym (ap (λ b. if b then Some (base_of cs n) else None) is) ∙ none in cc
    static_based false k is t none = cc

    go : (b : Bool) → is_static m ≡ b
        → slice_get (if b then if_not (is_floating (field_type c.pool m)) (field_record cs n c m s) (fields_behind cs n c (suc s) w ms)
        else if_not (is_floating (field_type c.pool m)) (field_record cs n c m w) (fields_behind cs n c s (suc w) ms)) i ≡ Some f
        → ((j : ℕ) → slice_get (fields_behind cs n c (suc s) w ms) j ≡ Some f → IsOwn cs c w ms f) → ((j : ℕ) → slice_get (fields_behind cs n c s (suc w) ms) j ≡ Some f → IsOwn cs c (suc w) ms f) → IsOwn cs c w (m ∷ ms) f
    go true is e statics words = shown (IsOwn cs c w (m ∷ ms) f) (is_floating (field_type c.pool m)) (field_record cs n c m s) (fields_behind cs n c (suc s) w ms) i f e
        (λ same. absurd (static_based true s is refl (ap (λ (f : Field). f.base) same ∙ base)))
        (λ j h. let o = statics j h in record { class = o.class; place = o.place; index = o.index; word = (rw is o.word) })
    go false is e statics words = shown (IsOwn cs c w (m ∷ ms) f) (is_floating (field_type c.pool m)) (field_record cs n c m w) (fields_behind cs n c s (suc w) ms) i f e
        (λ same. record { class = sym (ap (λ (f : Field). f.class) same); place = 0; index = (let a : w ≡ f.index = ap (λ (f : Field). f.index) same in omega (arith, a)); word = (rw is (ap (λ (f : Field). Some f.declared) same)) })
        (λ j h. let o = words j h in record { class = o.class; place = suc o.place; index = (let a = o.index in omega (arith, a)); word = (rw is o.word) })

-- each field is one of a class that isn't an interface
field_of : (cs : List ClassFile) (n : ℕ) (ds : List ClassFile) (i : ℕ) (f : Field) → slice_get (fields_from cs n ds) i ≡ Some f → f.base ≡ None
    → (c : ClassFile) × (k : ℕ) × (slice_get ds k ≡ Some c) × (is_interface c ≡ false) × IsOwn cs c (length (words_upward cs (super_name c))) c.fields f
field_of cs n [] i f e base = cc
field_of cs n (d ∷ ds) i f e base = by (parted (class_fields cs n d) (fields_from cs (suc n) ds) i f e) (λ j h. field_of cs (suc n) ds j f h base)
  where
    head : (b : Bool) → is_interface d ≡ b → slice_get (if b then [] else fields_behind cs n d 0 (length (words_upward cs (super_name d))) d.fields) i ≡ Some f
        → (c : ClassFile) × (k : ℕ) × (slice_get (d ∷ ds) k ≡ Some c) × (is_interface c ≡ false) × IsOwn cs c (length (words_upward cs (super_name c))) c.fields f
    head true is h = cc
    head false is h = (d, 0, refl, is, own_field cs n d 0 (length (words_upward cs (super_name d))) d.fields i f h base)

    by : (slice_get (class_fields cs n d) i ≡ Some f) ⊎ ((j : ℕ) × (slice_get (fields_from cs (suc n) ds) j ≡ Some f))
        → ((j : ℕ) → slice_get (fields_from cs (suc n) ds) j ≡ Some f → (c : ClassFile) × (k : ℕ) × (slice_get ds k ≡ Some c) × (is_interface c ≡ false) × IsOwn cs c (length (words_upward cs (super_name c))) c.fields f)
        → (c : ClassFile) × (k : ℕ) × (slice_get (d ∷ ds) k ≡ Some c) × (is_interface c ≡ false) × IsOwn cs c (length (words_upward cs (super_name c))) c.fields f
    by (inl h) later = head (is_interface d) refl h
    by (inr h) later = let r = later h.0 h.1 in (r.0, suc r.1, r.2, r.3, r.4)

module _ (cs : List ClassFile) (fine : supers_fault cs ≡ None) (new : doubled_class cs ≡ None) (no_context : class_named cs context_class ≡ None) (no_conflict : class_named cs conflict_class ≡ None)
    (up : IsUpward cs) (named : (i : ℕ) (c : ClassFile) → slice_get cs i ≡ Some c → is_class_name (own_name c) ≡ true) (arrays : List (List ℕ))
    (texts : List ℕ) (methods : List Method) (made : AllByRecursion (IsArrayOf cs fine new no_context up named arrays texts (fields_of cs) methods) arrays) where
  abbrev R : Program
  R = Q cs fine new no_context up named arrays texts (fields_of cs) methods

  abbrev tail : List Row
  tail = behind cs fine new no_context up named arrays texts (fields_of cs) methods

  others : AllByRecursion (λ (r : Row). is_class_name r.name ≡ false) tail
  others = no_classes cs fine new no_context up named arrays texts (fields_of cs) methods made

  rules : (t : ℕ) (r : Row) → row_at R t ≡ Some r → IsRow R t r
  rules = each_row cs fine new no_context up named arrays texts (fields_of cs) methods made

  declared : (i : ℕ) (f : Field) → field_at R i ≡ Some f → f.base ≡ None → IsDeclared R f
  declared i f e base =
      let o = field_of cs 0 cs i f e base in
      let c = o.0 in
      let k = o.1 in
      let own = o.4 in
      let by_name : class_named cs (own_name c) ≡ Some c = found_by_name library_names cs new k c o.2 in
      let class = is_class cs fine new tail others texts (fields_of cs) methods up named k c o.2 o.3 in
      let at = found_at (is_row (own_name c)) R.types _ class.found in
      record {
        below = λ s. let fall : false ≡ true = sym (new_to_library cs fine new k c o.2) ∙ ap is_library (sym own.class ∙ s) in cc;
        number = suc at.0;
        row = _;
        words = words_upward cs (own_name c);
        is = at.1;
        name = sym own.class;
        class = class;
        holds = refl;
        place =
            ap (λ (w : List Declared). slice_get w f.index) (words_step cs fine new tail others texts (fields_of cs) methods up named k c o.2 o.3)
            ∙ ap (slice_get (words_upward cs (super_name c) ++ own_words cs c)) own.index ∙ get_back (words_upward cs (super_name c)) (own_words cs c) own.place ∙ own.word;
      }

  no_row : (n : List ℕ) → is_class_name n ≡ true → is_library n ≡ false → class_named cs n ≡ None → find (λ (r : Row). bytes_eq r.name n) library_rows ≡ None → find (λ (r : Row). bytes_eq r.name n) (map (class_row cs) cs ++ tail) ≡ None
  no_row n class apart none absent =
      sym (find_back (is_row n) library_rows (map (class_row cs) cs ++ tail) absent)
      ∙ none_found cs fine new tail others texts (fields_of cs) methods up named n class apart (ap (holds_of (λ d. not (is_interface d))) none)

  -- The types of a folder's program keep the rules.
  pub types_are : AreTypes R
  types_are = record {
    rows = λ t r e. (rules t r e).row;
    instances = λ t r n e. (rules t r e).instances n;
    within = λ t r n e. (rules t r e).within n;
    fields = declared;
    traps = traps (map (class_row cs) cs ++ tail) texts (fields_of cs) methods;
    conflict = conflict (map (class_row cs) cs ++ tail) texts (fields_of cs) methods (no_row conflict_class refl refl no_conflict refl);
    context = context (map (class_row cs) cs ++ tail) texts (fields_of cs) methods (no_row context_class refl refl no_context refl);
    string = string (map (class_row cs) cs ++ tail) texts (fields_of cs) methods;
  }
