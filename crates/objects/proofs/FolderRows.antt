-- All rows that Layout makes of a folder keep the rules of types.
use Rattle.std.proofs.Common.{◌≡◌, ◌⊎◌, ℕ, zero, suc, ◌+◌, List, [], ◌∷◌, ◌++◌, map, Some, None, Bool, true, false, refl, sym, ap, subst, ◌∙◌, arith, inl, inr}
use Rattle.std.specs.Prelude.{slice_get, filter, ◌==◌}
use Rattle.std.specs.List.{AllByRecursion}
use Rattle.jmodel.specs.format.ClassFile.{ClassFile}
use Rattle.jmodel.specs.format.DescriptorReading.{type_of}
use Rattle.objects.specs.linking.StaticBases.{has_base}
use Rattle.objects.specs.linking.Members.{own_name}
use Rattle.objects.specs.linking.Superclasses.{class_named}
use Rattle.objects.specs.linking.Classes.{doubled_class}
use Rattle.objects.specs.semantics.Program.{Declared, Row, Field, Method, Program, row_at}
use Rattle.objects.specs.linking.LibraryClasses.{library_rows}
use Rattle.objects.specs.typing.TypeOrder.{object_class, context_class, is_class_name}
use Rattle.objects.specs.typing.TypeOrder as typing
use Rattle.objects.specs.linking.Resolution.{is_interface}
use Rattle.objects.specs.linking.ClassesFaults.{supers_fault}
use Rattle.objects.specs.laws.LinkingLaw.{IsUpward}
use Rattle.objects.specs.linking.Layout.{nameless, class_row, base_rows, array_row, static_words, primitive_arrays}
use Rattle.objects.proofs.LibraryRows.{IsRow, row_of, library}
use Rattle.objects.proofs.ClassTypes.{class_row_is, nameless_row_is}
use Rattle.objects.proofs.ArrayElements.{IsElement, letter, IsHeld, array_row_is}

pub all_to : {A : Type 0} (Given Rule : A → Type 0) → ((x : A) → Given x → Rule x) → (xs : List A) → AllByRecursion Given xs → AllByRecursion Rule xs
all_to Given Rule each [] all = tt
all_to Given Rule each (x ∷ xs) all = (each x all.0, all_to Given Rule each xs all.1)

pub all_append : {A : Type 0} (Rule : A → Type 0) (xs ys : List A) → AllByRecursion Rule xs → AllByRecursion Rule ys → AllByRecursion Rule (xs ++ ys)
all_append Rule [] ys all more = more
all_append Rule (x ∷ xs) ys all more = (all.0, all_append Rule xs ys all.1 more)

item : {A : Type 0} (Rule : A → Type 0) (xs : List A) (i : ℕ) (x : A) → AllByRecursion Rule xs → slice_get xs i ≡ Some x → Rule x
item Rule [] i x all e = cc
item Rule (y ∷ ys) zero x all e = let s : y ≡ x = cc in subst Rule s all.0
item Rule (y ∷ ys) (suc i) x all e = item Rule ys i x all.1 e

-- an item of two lists is one of the first or of the second
abbrev pub IsAt : {A : Type 0} → List A → A → Type 0
IsAt xs x = (i : ℕ) × (slice_get xs i ≡ Some x)

pub parted : {A : Type 0} (xs ys : List A) (i : ℕ) (x : A) → slice_get (xs ++ ys) i ≡ Some x → (slice_get xs i ≡ Some x) ⊎ IsAt ys x
parted [] ys i x e = inr (i, e)
parted (y ∷ xs) ys zero x e = inl e
parted (y ∷ xs) ys (suc i) x e = parted xs ys i x e

mapped : {A B : Type 0} (f : A → B) (xs : List A) (i : ℕ) (y : B) → slice_get (map f xs) i ≡ Some y → (x : A) × (slice_get xs i ≡ Some x) × (f x ≡ y)
mapped f [] i y e = cc
mapped f (x ∷ xs) zero y e = (x, refl, cc)
mapped f (x ∷ xs) (suc i) y e = mapped f xs i y e

module _ (cs : List ClassFile) (fine : supers_fault cs ≡ None) (new : doubled_class cs ≡ None) (no_context : class_named cs context_class ≡ None)
    (up : IsUpward cs) (named : (i : ℕ) (c : ClassFile) → slice_get cs i ≡ Some c → is_class_name (own_name c) ≡ true) (arrays : List (List ℕ))
    (texts : List ℕ) (fields : List Field) (methods : List Method) where
  abbrev pub behind : List Row
  behind = base_rows cs ++ (map (array_row cs) primitive_arrays ++ map (array_row cs) arrays)

  abbrev pub Q : Program
  Q = record { types = library_rows ++ (map (class_row cs) cs ++ behind); texts = texts; fields = fields; methods = methods }

  pub object_read : typing.class_read Q object_class ≡ object_class
  object_read = refl

  -- an array type whose elements are known
  pub record IsArrayOf (n : List ℕ) : Type 0 where
    pub element : List ℕ
    pub is : n ≡ 91 ∷ element
    pub known : IsElement cs Q object_read element
    pub held : IsHeld cs Q object_read element

  letter_held : (x : ℕ) → (x == 91) ≡ false → (x == 76) ≡ false → IsHeld cs Q object_read (x ∷ []) → IsArrayOf (91 ∷ x ∷ [])
  letter_held x a b h = record { element = x ∷ []; is = refl; known = letter x a b; held = h }

  pub primitives : AllByRecursion IsArrayOf primitive_arrays
  unfolding type_of
  primitives = (
    letter_held 66 refl refl (record { read = refl; class = λ e. cc }),
    (
      letter_held 67 refl refl (record { read = refl; class = λ e. cc }),
      (
        letter_held 73 refl refl (record { read = refl; class = λ e. cc }),
        (
          letter_held 74 refl refl (record { read = refl; class = λ e. cc }),
          (letter_held 83 refl refl (record { read = refl; class = λ e. cc }), (letter_held 90 refl refl (record { read = refl; class = λ e. cc }), tt)),
        ),
      ),
    ),
  )

  module _ (made : AllByRecursion IsArrayOf arrays) where
    abbrev pub IsNoClass : Row → Type 0
    IsNoClass r = is_class_name r.name ≡ false

    abbrev IsLow : Row → Type 0
    IsLow r = r.name ≡ [] → r.lineage ≡ []

    pub no_classes : AllByRecursion IsNoClass behind
    no_classes = all_append IsNoClass (base_rows cs) _ (bases (filter has_base cs)) (all_append IsNoClass (map (array_row cs) primitive_arrays) _ (each primitive_arrays primitives) (each arrays made))
      where
        bases : (ds : List ClassFile) → AllByRecursion IsNoClass (map (λ c. nameless (static_words cs c)) ds)
        bases [] = tt
        bases (d ∷ ds) = (refl, bases ds)

        each : (ns : List (List ℕ)) → AllByRecursion IsArrayOf ns → AllByRecursion IsNoClass (map (array_row cs) ns)
        each [] all = tt
        each (n ∷ ns) all = (ap is_class_name all.0.is, each ns all.1)

    low : AllByRecursion IsLow behind
    low = all_append IsLow (base_rows cs) _ (bases (filter has_base cs)) (all_append IsLow (map (array_row cs) primitive_arrays) _ (each primitive_arrays) (each arrays))
      where
        bases : (ds : List ClassFile) → AllByRecursion IsLow (map (λ c. nameless (static_words cs c)) ds)
        bases [] = tt
        bases (d ∷ ds) = (λ e. refl, bases ds)

        each : (ns : List (List ℕ)) → AllByRecursion IsLow (map (array_row cs) ns)
        each [] = tt
        each (n ∷ ns) = (λ e. refl, each ns)

    an_array : (t : ℕ) (ns : List (List ℕ)) → AllByRecursion IsArrayOf ns → (r : Row) → IsAt (map (array_row cs) ns) r → row_at Q t ≡ Some r → IsRow Q t r
    an_array t ns all r at e =
        let m = mapped (array_row cs) ns at.0 r at.1 in
        let a = item IsArrayOf ns at.0 m.0 all m.1 in
        let same : array_row cs (91 ∷ a.element) ≡ r = ap (array_row cs) (sym a.is) ∙ m.2 in
        subst (IsRow Q t) same (array_row_is cs Q object_read t a.element a.known a.held (e ∙ ap (λ (r : Row). Some r) (sym same)))

    a_nameless : (t : ℕ) (words : List Declared) → row_at Q t ≡ Some (nameless words) → IsRow Q t (nameless words)
    a_nameless t words e = nameless_row_is cs fine new behind no_classes texts fields methods up named low t words e

    a_class : (t i : ℕ) (c : ClassFile) → slice_get cs i ≡ Some c → (b : Bool) → is_interface c ≡ b → row_at Q t ≡ Some (class_row cs c) → IsRow Q t (class_row cs c)
    a_class t i c h true is e =
        let same : class_row cs c ≡ nameless [] = rw is refl in
        subst (IsRow Q t) (sym same) (a_nameless t [] (e ∙ ap (λ (r : Row). Some r) same))
    a_class t i c h false is e = class_row_is cs fine new behind no_classes texts fields methods up named i c h is t e

    behind_row : (t : ℕ) (r : Row) → IsAt behind r → row_at Q t ≡ Some r → IsRow Q t r
    behind_row t r at e = by (parted (base_rows cs) (map (array_row cs) primitive_arrays ++ map (array_row cs) arrays) at.0 r at.1)
      where
        base : slice_get (base_rows cs) at.0 ≡ Some r → IsRow Q t r
        base h =
            let m = mapped (λ c. nameless (static_words cs c)) (filter has_base cs) at.0 r h in
            subst (IsRow Q t) m.2 (a_nameless t (static_words cs m.0) (e ∙ ap (λ (r : Row). Some r) (sym m.2)))

        array : IsAt (map (array_row cs) primitive_arrays ++ map (array_row cs) arrays) r → IsRow Q t r
        array at = last (parted (map (array_row cs) primitive_arrays) (map (array_row cs) arrays) at.0 r at.1)
          where
            last : (slice_get (map (array_row cs) primitive_arrays) at.0 ≡ Some r) ⊎ IsAt (map (array_row cs) arrays) r → IsRow Q t r
            last (inl h) = an_array t primitive_arrays primitives r (at.0, h) e
            last (inr h) = an_array t arrays made r h e

        by : (slice_get (base_rows cs) at.0 ≡ Some r) ⊎ IsAt (map (array_row cs) primitive_arrays ++ map (array_row cs) arrays) r → IsRow Q t r
        by (inl h) = base h
        by (inr h) = array h

    -- Each row, at its number, keeps the rules of types.
    pub each_row : (t : ℕ) (r : Row) → row_at Q t ≡ Some r → IsRow Q t r
    each_row zero r e = cc
    each_row (suc t) r e = by (parted library_rows (map (class_row cs) cs ++ behind) t r e)
      where
        by : (slice_get library_rows t ≡ Some r) ⊎ IsAt (map (class_row cs) cs ++ behind) r → IsRow Q (suc t) r
        by (inl h) = let s : 1 + t ≡ suc t = omega arith in subst (λ n. IsRow Q n r) s (row_of Q 1 library_rows (library (map (class_row cs) cs ++ behind) texts fields methods) t r h)
        by (inr h) = classes h
          where
            classes : IsAt (map (class_row cs) cs ++ behind) r → IsRow Q (suc t) r
            classes at = last (parted (map (class_row cs) cs) behind at.0 r at.1)
              where
                last : (slice_get (map (class_row cs) cs) at.0 ≡ Some r) ⊎ IsAt behind r → IsRow Q (suc t) r
                last (inl h) =
                    let m = mapped (class_row cs) cs at.0 r h in
                    subst (IsRow Q (suc t)) m.2 (a_class (suc t) at.0 m.0 m.1 (is_interface m.0) refl (e ∙ ap (λ (r : Row). Some r) (sym m.2)))
                last (inr h) = behind_row (suc t) r h e
