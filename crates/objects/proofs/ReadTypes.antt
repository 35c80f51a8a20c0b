-- Names and types of a program as typing reads them.
use Rattle.std.proofs.Common.{◌≡◌, ◌≢◌, ℕ, List, [], ◌∷◌, drop, Option, Some, None, Bool, true, false, refl, sym, ap, subst, ◌∙◌, arith, ⊎_elim}
use Rattle.std.specs.Prelude.{codes, bytes_eq, ◌||◌, ◌==◌}
use Rattle.std.specs.List.{AllByRecursion, list_any}
use Rattle.std.proofs.lemmas.Bool.Decides.{nat_tests}
use Rattle.jmodel.specs.declared.typing.VType.{VType}
use Rattle.jmodel.specs.declared.typing.VType.TheVariants.{Int, Long, Second, Null, Ref, Uninit, UninitThis, Top}
use Rattle.objects.specs.semantics.Program.{Declared, Row, Field, Program, field_at}
use Rattle.objects.specs.typing.TypeOrder.{object_class, throwable_class, context_class, conflict_class, IsWithin, AreWithin, is_array, is_element_within, element_class, without_last, classes_from, above_in, class_read, name_read, read_in}
use Rattle.objects.specs.typing.Typing.{has_references}
use Rattle.objects.specs.typing.Source.{IsUnder, IsClass, AreTypes, IsReadName, IsReadType, IsKnownName, IsKnownType}
use Rattle.objects.proofs.Order.{Among, first, later, plain_name, Above, by_class, class_row, by_found}
use Rattle.objects.proofs.Elements.{inner_name, never, Shape, shape, shaped, deeper, under_object, class, same, Within, within, is_within_by, arrays, object, classes}

module _ (P : Program) where
  read_one : (t : VType) → IsReadType P t → IsWithin P t t
  read_one Int r = refl
  read_one Long r = refl
  read_one Second r = refl
  read_one Null r = refl
  read_one (Ref n) r = r.itself
  read_one (Uninit p) r = grind (arith, nat_tests)
  read_one UninitThis r = refl
  read_one Top r = refl

  -- types that typing reads are at most themselves
  pub read_itself : (ts : List VType) → AllByRecursion (IsReadType P) ts → AreWithin P ts ts
  read_itself [] r = tt
  read_itself (t ∷ ts) r = (read_one t r.0, read_itself ts r.1)

  -- so are types whose names are known
  known_one : (t : VType) → IsKnownType P t → IsWithin P t t
  known_one (Ref n) r = r.itself
  known_one Int r = refl
  known_one Long r = refl
  known_one Second r = refl
  known_one Null r = refl
  known_one (Uninit p) r = grind (arith, nat_tests)
  known_one UninitThis r = refl
  known_one Top r = refl

  pub known_itself : (ts : List VType) → AllByRecursion (IsKnownType P) ts → AreWithin P ts ts
  known_itself [] r = tt
  known_itself (t ∷ ts) r = (known_one t r.0, known_itself ts r.1)

  -- a known array is read
  pub known_array : (n : List ℕ) → is_array n ≡ true → IsKnownName P n → IsReadName P n
  known_array n i k = record { itself = k.itself; top = is_within_by P n object_class (object i refl); read = k.array i }

module _ (P : Program) (C : AreTypes P) where
  -- ---- classes

  pub among_own : (r : Row) (ds : List Declared) → IsClass P r ds → Among r.name r.lineage
  among_own r ds c = ⊎_elim
      (λ (e : (r.name ≡ object_class) × (r.lineage ≡ r.name ∷ [])). subst (Among r.name) (sym e.1) (first r.name []))
      (λ (u : IsUnder P r ds). subst (Among r.name) (sym u.lineage) (first r.name u.upper.lineage))
      c.placed

  among_object : (r : Row) (ds : List Declared) → IsClass P r ds → Among object_class r.lineage
  among_object = by_class P C (λ r ds. Among object_class r.lineage)
      (λ r ds c o e. subst (Among object_class) (sym e) (subst (λ n. Among n (r.name ∷ [])) o (first r.name [])))
      (λ r ds c u k rest. subst (Among object_class) (sym u.lineage) (later object_class r.name u.upper.lineage rest))

  pub lines : (r : Row) (ds : List Declared) → IsClass P r ds → classes_from P r.name ≡ r.lineage
  lines r ds c = ap (λ (o : Option Row). above_in o r.name) c.found

  pub class_is_read : (r : Row) (ds : List Declared) → IsClass P r ds → IsReadName P r.name
  class_is_read r ds c =
      let plain = plain_name r.name c.named in
      record {
        itself = is_within_by P r.name r.name (classes plain (subst (Among r.name) (sym (lines r ds c)) (among_own r ds c)));
        top = is_within_by P r.name object_class (classes plain (subst (Among object_class) (sym (lines r ds c)) (among_object r ds c)));
        read = (let found = c.found in let e = c.read in rw (plain, found) e);
      }

  -- the class of a field of objects
  pub owner_is_read : (i : ℕ) (f : Field) → field_at P i ≡ Some f → f.base ≡ None → IsReadName P f.class
  owner_is_read i f e base = let d = C.fields i f e base in subst (IsReadName P) d.name (class_is_read d.row d.words d.class)

  -- ---- classes of the transaction, and Object

  object_above : Above P C object_class object_class
  object_above = subst (Among object_class) (sym C.conflict.1.1.1.1.0) (first object_class [])

  pub object_is_read : IsReadName P object_class
  object_is_read = record {
    itself = is_within_by P object_class object_class (classes refl object_above);
    top = is_within_by P object_class object_class (classes refl object_above);
    read = by_found P C (name_read P object_class ≡ object_class) object_class
        (λ t r row name lineage.
        let x = class_row P C t r row object_class (subst (Among object_class) lineage object_above) in
        subst (λ n. name_read P n ≡ n) name (class_is_read r x.0 x.1).read)
        (λ free. ap read_in free);
  }

  pub context_itself : IsWithin P (Ref context_class) (Ref context_class)
  context_itself = ap (list_any (bytes_eq context_class)) C.context

  pub conflict_itself : IsWithin P (Ref conflict_class) (Ref conflict_class)
  conflict_itself = ap (list_any (bytes_eq conflict_class)) C.conflict.0

  pub conflict_thrown : IsWithin P (Ref conflict_class) (Ref throwable_class)
  conflict_thrown = ap (list_any (bytes_eq throwable_class)) C.conflict.0

  pub throwable_itself : IsWithin P (Ref throwable_class) (Ref throwable_class)
  throwable_itself = ap (list_any (bytes_eq throwable_class)) C.conflict.1.1.1.0

  -- ---- the elements of an array of references

  -- their class is read, and the array is one of objects
  pub record AreReadElements (n : List ℕ) : Type 0 where
    pub itself : IsWithin P (Ref (element_class n)) (Ref (element_class n))
    pub read : name_read P (element_class n) ≡ element_class n
    pub below : IsWithin P (Ref n) (Ref (codes "[Ljava/lang/Object;"))

  of_arrays : (y : List ℕ) → is_element_within P y y ≡ true → name_read P (91 ∷ 91 ∷ y) ≡ 91 ∷ 91 ∷ y → AreReadElements (91 ∷ 91 ∷ y)
  of_arrays y itself read = record { itself = itself; read = ap (drop 1) read; below = refl }

  module _ (x : List ℕ) (read : name_read P (91 ∷ 76 ∷ x) ≡ 91 ∷ 76 ∷ x) (above : Above P C (without_last x) (without_last x)) where
    abbrev c : List ℕ
    c = without_last x

    as_read : class_read P c ≡ c
    as_read = sym (inner_name (class_read P c)) ∙ ap (λ (l : List ℕ). without_last (drop 2 l)) read

    plain : is_array c ≡ false
    plain = go (is_array c) refl
      where
        go : (b : Bool) → is_array c ≡ b → b ≡ false
        go false is = refl
        go true is = absurd (by_found P C ⊥ c
            (λ t r row name lineage. let k = class_row P C t r row c (subst (Among c) lineage above) in never (is_array c) is (ap is_array (sym name) ∙ plain_name r.name k.1.named))
            (λ free. never (is_array c) is (ap is_array (sym as_read ∙ ap read_in free))))

    below_object : Above P C c object_class
    below_object = by_found P C (Above P C c object_class) c
        (λ t r row name lineage. let k = class_row P C t r row c (subst (Among c) lineage above) in subst (Among object_class) (sym lineage) (among_object r k.0 k.1))
        (λ free. subst (λ n. Above P C n object_class) (sym (sym as_read ∙ ap read_in free)) object_above)

    of_class : AreReadElements (91 ∷ 76 ∷ x)
    of_class = record {
      itself = is_within_by P c c (classes plain above);
      read = (let p = plain in let e = as_read in rw p e);
      below = shaped P 76 x 76 (codes "java/lang/Object;") (class refl refl refl below_object);
    }

  pub elements_read : (n : List ℕ) → is_array n ≡ true → has_references n ≡ true → IsReadName P n → AreReadElements n
  elements_read [] is has r = cc
  elements_read (b ∷ []) is has r = cc
  elements_read (b ∷ e ∷ x) is has r = by (within P (b ∷ e ∷ x) (b ∷ e ∷ x) r.itself)
    where
      first_is : b ≡ 91
      first_is = grind (arith, nat_tests)

      one : e ≢ 91 → e ≢ 76 → (a d : Bool) → (e == 76) ≡ a → (e == 91) ≡ d → (a || d) ≡ true → ⊥
      one p q true d f g h = q (grind (arith, nat_tests))
      one p q false true f g h = p (grind (arith, nat_tests))
      one p q false false f g h = cc

      read_as : (z : ℕ) → e ≡ z → name_read P (91 ∷ z ∷ x) ≡ 91 ∷ z ∷ x
      read_as z s = subst (λ (d : ℕ). name_read P (d ∷ z ∷ x) ≡ d ∷ z ∷ x) first_is (subst (λ (d : ℕ). name_read P (b ∷ d ∷ x) ≡ b ∷ d ∷ x) s r.read)

      back : (z : ℕ) → e ≡ z → AreReadElements (91 ∷ z ∷ x) → AreReadElements (b ∷ e ∷ x)
      back z s a = subst (λ (d : ℕ). AreReadElements (d ∷ e ∷ x)) (sym first_is) (subst (λ (d : ℕ). AreReadElements (91 ∷ d ∷ x)) (sym s) a)

      shapes : Shape P e x e x → AreReadElements (b ∷ e ∷ x)
      shapes (deeper y z h) = back 91 y (of_arrays x h (read_as 91 y))
      shapes (under_object y z h) = absurd (omega (arith, y, z))
      shapes (class y z g h) = back 76 y (of_class x (read_as 76 y) h)
      shapes (same y z h) = absurd (one y z (e == 76) (e == 91) refl refl has)

      by : Within P (b ∷ e ∷ x) (b ∷ e ∷ x) → AreReadElements (b ∷ e ∷ x)
      by (arrays y z h) = shapes (shape P e x e x h)
      by (object y z) = absurd (never (is_array (b ∷ e ∷ x)) y (ap is_array z))
      by (classes y z) = absurd (never (is_array (b ∷ e ∷ x)) is y)
