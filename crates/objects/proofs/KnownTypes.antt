-- What is wider than a known type is known, and types in which null stands for each reference that isn't known.
use Rattle.std.proofs.Common.{◌≡◌, ℕ, List, [], ◌∷◌, ◌++◌, drop, Bool, true, false, refl, sym, ap, subst, ◌∙◌, ◌⊎◌, inl, inr, ⊎_elim}
use Rattle.std.specs.Prelude.{codes, bytes_eq, if◌then◌else◌}
use Rattle.std.proofs.lemmas.Slice.Eq.{bytes_eq-Decides}
use Rattle.jmodel.specs.declared.typing.VType.TheVariants.{Ref}
use Rattle.objects.specs.semantics.Program.{Declared, Row, Program}
use Rattle.objects.specs.typing.TypeOrder.{object_class, throwable_class, conflict_class, conflict_classes, from_class, IsWithin, is_array, is_element_within, element_class, without_last, classes_from, class_read, element_read, name_read, read_in}
use Rattle.objects.specs.typing.Typing.{has_references}
use Rattle.objects.specs.typing.Source.{IsClass, AreTypes, IsReadName, IsKnownName}
use Rattle.objects.proofs.Order.{Among, either, first, later, plain_name, Above, by_class, class_row, object_top, array_above, by_found, free_is}
use Rattle.objects.proofs.Elements.{inner_name, never, Shape, shape, shaped, deeper, under_object, class, same, Within, within, is_within_by, arrays, object, classes}
use Rattle.objects.proofs.ReadTypes.{class_is_read, object_is_read, among_own, lines, elements_read}

-- ---- names

pub own_from : (a : List ℕ) (ns : List (List ℕ)) → Among a (from_class a ns)
own_from a [] = first a (object_class ∷ [])
own_from a (c ∷ cs) = by (own_from a cs) (bytes_eq a c) refl
  where
    by : Among a (from_class a cs) → (b : Bool) → bytes_eq a c ≡ b → Among a (if b then c ∷ cs else from_class a cs)
    by rest true e = subst (λ n. Among a (n ∷ cs)) ((bytes_eq-Decides a c).0 e) (first a cs)
    by rest false e = rest

among_from : (n a : List ℕ) (ns : List (List ℕ)) → Among n (from_class a ns) → (n ≡ a) ⊎ ((n ≡ object_class) ⊎ Among n ns)
among_from n a [] h = ⊎_elim inl (λ (f : Among n (object_class ∷ [])). inr (⊎_elim inl (λ (g : Among n []). absurd (let no : ⊥ = cc in no)) (either n object_class [] f))) (either n a (object_class ∷ []) h)
among_from n a (c ∷ cs) h = by (among_from n a cs) (bytes_eq a c) refl h
  where
    further : (n ≡ a) ⊎ ((n ≡ object_class) ⊎ Among n cs) → (n ≡ a) ⊎ ((n ≡ object_class) ⊎ Among n (c ∷ cs))
    further (inl e) = inl e
    further (inr (inl e)) = inr (inl e)
    further (inr (inr f)) = inr (inr (later n c cs f))

    by : (Among n (from_class a cs) → (n ≡ a) ⊎ ((n ≡ object_class) ⊎ Among n cs)) → (b : Bool) → bytes_eq a c ≡ b → Among n (if b then c ∷ cs else from_class a cs) → (n ≡ a) ⊎ ((n ≡ object_class) ⊎ Among n (c ∷ cs))
    by rest true e h = inr (inr h)
    by rest false e h = further (rest h)

-- a name that typing reads as it is, of a class that is above itself
pub record IsClassName (P : Program) (C : AreTypes P) (n : List ℕ) : Type 0 where
  pub name : IsReadName P n
  pub above : Above P C n n
  pub plain : is_array n ≡ false

module _ (P : Program) (C : AreTypes P) where
  own_class : (r : Row) (ds : List Declared) → IsClass P r ds → IsClassName P C r.name
  own_class r ds c = record { name = class_is_read P C r ds c; above = subst (Among r.name) (sym (lines P C r ds c)) (among_own P C r ds c); plain = plain_name r.name c.named }

  -- each name above a class of the program is one
  lineage_classes : (r : Row) (ds : List Declared) → IsClass P r ds → (n : List ℕ) → Among n r.lineage → IsClassName P C n
  lineage_classes = by_class P C (λ r ds. (n : List ℕ) → Among n r.lineage → IsClassName P C n)
      (λ r ds c o e n h. ⊎_elim (λ (s : n ≡ r.name). subst (IsClassName P C) (sym s) (own_class r ds c)) (λ (f : Among n []). absurd (let no : ⊥ = cc in no)) (either n r.name [] (subst (Among n) e h)))
      (λ r ds c u k rest n h. ⊎_elim (λ (s : n ≡ r.name). subst (IsClassName P C) (sym s) (own_class r ds c)) (rest n) (either n r.name u.upper.lineage (subst (Among n) u.lineage h)))

  object_above : Above P C object_class object_class
  object_above = subst (Among object_class) (sym C.conflict.1.1.1.1.0) (first object_class [])

  own_above : (n c : List ℕ) → classes_from P c ≡ from_class c conflict_classes → n ≡ c → Above P C n n
  own_above n c e s = subst (λ c. Above P C c c) (sym s) (subst (Among c) (sym e) (own_from c conflict_classes))

  -- one of those above the conflict
  conflict_own : (n : List ℕ) → Among n conflict_classes → Above P C n n
  conflict_own n h =
      let x = C.conflict in
      ⊎_elim (own_above n _ x.0) (λ h. ⊎_elim (own_above n _ x.1.0) (λ h. ⊎_elim (own_above n _ x.1.1.0) (λ h. ⊎_elim (own_above n _ x.1.1.1.0) (λ h. ⊎_elim (own_above n _ x.1.1.1.1.0) (λ (f : Among n []). absurd (let no : ⊥ = cc in no))
      (either n object_class [] h)) (either n throwable_class (object_class ∷ []) h)) (either n (codes "java/lang/Exception") (throwable_class ∷ object_class ∷ []) h))
      (either n (codes "java/lang/RuntimeException") (codes "java/lang/Exception" ∷ throwable_class ∷ object_class ∷ []) h)) (either n conflict_class (codes "java/lang/RuntimeException" ∷ codes "java/lang/Exception" ∷ throwable_class ∷ object_class ∷ []) h)

  -- what is above something is above itself
  pub above_itself : (m n : List ℕ) → Above P C m n → Above P C n n
  above_itself m n h = by_found P C (Above P C n n) m
      (λ t r row name lineage.
      let f = subst (Among n) lineage h in
      let x = class_row P C t r row n f in
      (lineage_classes r x.0 x.1 n f).above)
      (λ free. ⊎_elim
      (λ (e : n ≡ m). subst (λ c. Above P C c c) (sym e) (subst (Among m) (sym (free_is P C m free)) (own_from m conflict_classes)))
      (⊎_elim (λ (e : n ≡ object_class). subst (λ c. Above P C c c) (sym e) object_above) (conflict_own n))
      (among_from n m conflict_classes (subst (Among n) (free_is P C m free) h)))

  -- ---- elements of arrays

  pub record AreKnownElements (y : List ℕ) : Type 0 where
    pub itself : is_element_within P y y ≡ true
    pub read : element_read P y ≡ y

  -- what is above a class that is read as it is, is read so
  above_read : (x y : List ℕ) → class_read P x ≡ x → Above P C x y → class_read P y ≡ y
  above_read x y read h = by_found P C (class_read P y ≡ y) x
      (λ t r row name lineage.
      let f = subst (Among y) lineage h in
      let c = class_row P C t r row y f in
      let k = lineage_classes r c.0 c.1 y f in
      let p = k.plain in
      let e = k.name.read in
      (rw p at e))
      (λ free.
      let o : x ≡ object_class = sym read ∙ ap read_in free in
      let s : y ≡ object_class = object_top P C y (subst (λ x. Above P C x y) o h) in
      subst (λ y. class_read P y ≡ y) (sym s) (object_is_read P C).read)

  pub elements_up : (x y : List ℕ) → is_element_within P x y ≡ true → element_read P x ≡ x → AreKnownElements y
  elements_up [] y h e = cc
  elements_up (c ∷ x) [] h e = cc
  elements_up (c ∷ x) (d ∷ y) h e = by (elements_up x y) (shape P c x d y h)
    where
      read_as : (z : ℕ) → c ≡ z → element_read P (z ∷ x) ≡ z ∷ x
      read_as z s = subst (λ (c : ℕ). element_read P (c ∷ x) ≡ c ∷ x) s e

      back : (z : ℕ) → d ≡ z → AreKnownElements (z ∷ y) → AreKnownElements (d ∷ y)
      back z s a = subst (λ (d : ℕ). AreKnownElements (d ∷ y)) (sym s) a

      by : (is_element_within P x y ≡ true → element_read P x ≡ x → AreKnownElements y) → Shape P c x d y → AreKnownElements (d ∷ y)
      by rest (deeper a b g) =
          let r = rest g (ap (drop 1) (read_as 91 a)) in
          back 91 b (record { itself = shaped P 91 y 91 y (deeper refl refl r.itself); read = ap (λ (l : List ℕ). 91 ∷ l) r.read })
      by rest (under_object a b g) = back 76 b (subst (λ (y : List ℕ). AreKnownElements (76 ∷ y)) (sym g) (record {
        itself = shaped P 76 (codes "java/lang/Object;") 76 (codes "java/lang/Object;") (class refl refl refl object_above);
        read = ap (λ (l : List ℕ). codes "L" ++ l ++ codes ";") (object_is_read P C).read;
      }))
      by rest (class a b g i) =
          let own = sym (inner_name (class_read P (without_last x))) ∙ ap (λ (l : List ℕ). without_last (drop 1 l)) (read_as 76 a) in
          let up = above_read (without_last x) (without_last y) own i in
          back 76 b (record {
            itself = shaped P 76 y 76 y (class refl refl g (above_itself (without_last x) (without_last y) i));
            read = ap (λ (l : List ℕ). codes "L" ++ l ++ codes ";") up ∙ ap (λ (l : List ℕ). 76 ∷ l) (sym g);
          })
      by rest (same a b g) =
          let one : c ≡ d = cc in
          let tail : x ≡ y = cc in
          subst (λ (d : ℕ). AreKnownElements (d ∷ y)) one (subst (λ (y : List ℕ). AreKnownElements (c ∷ y)) tail (record { itself = shaped P c x c x (same a b refl); read = e }))

  -- ---- known names

  array_known : (n : List ℕ) → is_array n ≡ true → AreKnownElements (drop 1 n) → IsKnownName P n
  array_known [] i a = cc
  array_known (c ∷ n) i a = record {
    itself = is_within_by P (c ∷ n) (c ∷ n) (arrays i i a.itself);
    array = λ e. (let r = a.read in rw i (ap (λ (l : List ℕ). c ∷ l) r));
  }

  element_of : (n : List ℕ) → is_array n ≡ true → name_read P n ≡ n → element_read P (drop 1 n) ≡ drop 1 n
  element_of [] i e = cc
  element_of (c ∷ n) i e = ap (drop 1) (rw i at e)

  pub known_up : (m n : List ℕ) → IsKnownName P m → IsWithin P (Ref m) (Ref n) → IsKnownName P n
  known_up m n k w = by (within P m n w)
    where
      plain : is_array m ≡ false → Above P C m n → is_array n ≡ false
      plain i h = go (is_array n) refl
        where
          go : (b : Bool) → is_array n ≡ b → is_array n ≡ false
          go false e = e
          go true e = absurd (never (is_array m) (array_above P C m n h e) i)

      by : Within P m n → IsKnownName P n
      by (classes i h) = let p = plain i h in record { itself = is_within_by P n n (classes p (above_itself m n h)); array = λ e. absurd (never (is_array n) e p) }
      by (object i e) = subst (IsKnownName P) (sym e) (record { itself = (object_is_read P C).itself; array = λ f. cc })
      by (arrays i j h) = array_known n j (elements_up (drop 1 m) (drop 1 n) h (element_of m i (k.array i)))

  -- a class that is below another is below itself
  pub below_itself : (m n : List ℕ) → Above P C m n → Above P C m m
  below_itself m n h = by_found P C (Above P C m m) m
      (λ t r row name lineage. let x = class_row P C t r row n (subst (Among n) lineage h) in subst (λ m. Above P C m m) name (own_class r x.0 x.1).above)
      (λ free. subst (Among m) (sym (free_is P C m free)) (own_from m conflict_classes))

  -- what is at most Throwable is known
  pub thrown_known : (n : List ℕ) → IsWithin P (Ref n) (Ref throwable_class) → IsKnownName P n
  thrown_known n w = by (within P n throwable_class w)
    where
      by : Within P n throwable_class → IsKnownName P n
      by (classes i h) = record { itself = is_within_by P n n (classes i (below_itself n throwable_class h)); array = λ e. absurd (never (is_array n) e i) }
      by (object i e) = absurd (never (bytes_eq throwable_class object_class) ((bytes_eq-Decides throwable_class object_class).1 e) refl)
      by (arrays i j h) = absurd (never (is_array throwable_class) j refl)

  -- the elements of a known array of references
  pub element_known : (n : List ℕ) → is_array n ≡ true → has_references n ≡ true → IsKnownName P n → IsKnownName P (element_class n)
  element_known n i refs k =
      let r = elements_read P C n i refs (record { itself = k.itself; top = is_within_by P n object_class (object i refl); read = k.array i }) in
      record { itself = r.itself; array = λ e. r.read }
