-- The narrowest class or array above two, where the types of a program keep the rules of source.
use Rattle.std.proofs.Common.{◌≡◌, ◌≢◌, ℕ, List, [], ◌∷◌, ◌++◌, drop, Option, Some, None, Bool, true, false, refl, sym, ap, subst, ◌∙◌, arith, ⊎_elim}
use Rattle.std.specs.Prelude.{bytes_eq, codes, ◌==◌, option_map, if◌then◌else◌}
use Rattle.std.specs.List.{list_any}
use Rattle.std.proofs.lemmas.Slice.Eq.{bytes_eq-Decides}
use Rattle.std.proofs.lemmas.Bool.Decides.{nat_tests}
use Rattle.jmodel.specs.declared.typing.VType.TheVariants.{Ref}
use Rattle.objects.specs.semantics.Program.{Declared, Row, Program, row_at}
use Rattle.objects.specs.typing.TypeOrder.{object_class, conflict_classes, from_class, IsWithin, classes_from, is_array, is_class_above, without_last, is_element_within, above_in}
use Rattle.objects.specs.typing.Source.{IsClass, AreTypes}
use Rattle.objects.proofs.Order.{Among, either, first, later, Above, by_class, class_row, by_found, free_is, array_above}
use Rattle.objects.proofs.Elements.{inner_name, Shape, deeper, under_object, class, same, shape, shaped, Within, arrays, object, classes, within, is_within_by}
use Rattle.verifier.specs.Order.{object_descriptor, class_descriptor, first_common, join_class, arrays_over, join_element, array_over, object_over, join_name}
use Rattle.verifier.specs.Order as ord

none : (n : List ℕ) → Among n [] → ⊥
none n h = cc

module _ (P : Program) (C : AreTypes P) where
  above_is : (r : Row) (ds : List Declared) → IsClass P r ds → classes_from P r.name ≡ r.lineage
  above_is r ds c = ap (λ (o : Option Row). above_in o r.name) c.found

  -- in such a list each class has those behind it above it
  abbrev Ordered : List (List ℕ) → Type 0
  Ordered [] = Unit {0}
  Ordered (x ∷ xs) = ((y : List ℕ) → Among y (x ∷ xs) → Above P C x y) × Ordered xs

  ordered_with : (x : List ℕ) (xs : List (List ℕ)) → classes_from P x ≡ x ∷ xs → Ordered xs → Ordered (x ∷ xs)
  ordered_with x xs is rest = (λ y h. subst (Among y) (sym is) h, rest)

  ordered_class : (r : Row) (ds : List Declared) → IsClass P r ds → Ordered r.lineage
  ordered_class = by_class P C (λ r ds. Ordered r.lineage)
      (λ r ds c n e. subst Ordered (sym e) (ordered_with r.name [] (above_is r ds c ∙ e) tt))
      (λ r ds c u d rest. subst Ordered (sym u.lineage) (ordered_with r.name u.upper.lineage (above_is r ds c ∙ u.lineage) rest))

  -- each list that ends the conflict's is so
  abbrev AreOrdered : List (List ℕ) → Type 0
  AreOrdered [] = Unit {0}
  AreOrdered (n ∷ ns) = Ordered (n ∷ ns) × AreOrdered ns

  ends_with : (n : List ℕ) (ns : List (List ℕ)) → classes_from P n ≡ n ∷ ns → Ordered ns → AreOrdered ns → AreOrdered (n ∷ ns)
  ends_with n ns is rest all = (ordered_with n ns is rest, all)

  conflict_ordered : AreOrdered conflict_classes
  conflict_ordered =
      let x = C.conflict in
      let e5 = ends_with _ [] x.1.1.1.1.0 tt tt in
      let e4 = ends_with _ _ x.1.1.1.0 e5.0 e5 in
      let e3 = ends_with _ _ x.1.1.0 e4.0 e4 in
      let e2 = ends_with _ _ x.1.0 e3.0 e3 in
      ends_with _ _ x.0 e2.0 e2

  object_is : classes_from P object_class ≡ object_class ∷ []
  object_is = C.conflict.1.1.1.1.0

  pub object_self : Above P C object_class object_class
  object_self = subst (Among object_class) (sym object_is) (first object_class [])

  free_ordered : (a : List ℕ) → classes_from P a ≡ from_class a conflict_classes → Ordered (from_class a conflict_classes)
  free_ordered a is = go conflict_classes conflict_ordered is
    where
      alone : classes_from P a ≡ a ∷ object_class ∷ [] → Ordered (a ∷ object_class ∷ [])
      alone e = ordered_with a (object_class ∷ []) e (ordered_with object_class [] object_is tt)

      go : (ns : List (List ℕ)) → AreOrdered ns → classes_from P a ≡ from_class a ns → Ordered (from_class a ns)
      go [] all e = alone e
      go (n ∷ ns) all e = by (go ns all.1) (bytes_eq a n) e
        where
          by : (classes_from P a ≡ from_class a ns → Ordered (from_class a ns)) → (b : Bool) → classes_from P a ≡ (if b then n ∷ ns else from_class a ns) → Ordered (if b then n ∷ ns else from_class a ns)
          by rest true e = all.0
          by rest false e = rest e

  pub ordered : (n : List ℕ) → Ordered (classes_from P n)
  ordered n = by_found P C (Ordered (classes_from P n)) n
      (λ t r row name above. subst Ordered (sym above) (known t r row (r.lineage) refl))
      (λ free. let e = free_is P C n free in subst Ordered (sym e) (free_ordered n e))
    where
      known : (t : ℕ) (r : Row) → row_at P t ≡ Some r → (ns : List (List ℕ)) → r.lineage ≡ ns → Ordered r.lineage
      known t r row [] e = subst Ordered (sym e) tt
      known t r row (x ∷ xs) e = let k = class_row P C t r row x (subst (Among x) (sym e) (first x xs)) in ordered_class r k.0 k.1

  -- the first class of one list that is among another's is in both, and has all others above it
  pub common_first : (xs ys : List (List ℕ)) (c : List ℕ) → first_common xs ys ≡ Some c → Among c xs × Among c ys
  common_first [] ys c e = cc
  common_first (x ∷ xs) ys c e = by (common_first xs ys c) (list_any (bytes_eq x) ys) refl e
    where
      by : (first_common xs ys ≡ Some c → Among c xs × Among c ys) → (b : Bool) → list_any (bytes_eq x) ys ≡ b → (if b then Some x else first_common xs ys) ≡ Some c → Among c (x ∷ xs) × Among c ys
      by rest true is e = let s : x ≡ c = cc in (subst (λ (c : List ℕ). Among c (x ∷ xs)) s (first x xs), subst (λ (c : List ℕ). Among c ys) s is)
      by rest false is e = let r = rest e in (later c x xs r.0, r.1)

  pub record HasNearest (xs ys : List (List ℕ)) (d : List ℕ) : Type 0 where
    pub nearest : List ℕ
    pub is : first_common xs ys ≡ Some nearest
    pub below : Above P C nearest d

  pub common_least : (xs ys : List (List ℕ)) (d : List ℕ) → Ordered xs → Among d xs → Among d ys → HasNearest xs ys d
  common_least [] ys d o h g = absurd (none d h)
  common_least (x ∷ xs) ys d o h g = by (λ f. common_least xs ys d o.1 f g) (list_any (bytes_eq x) ys) refl
    where
      further : HasNearest xs ys d → list_any (bytes_eq x) ys ≡ false → HasNearest (x ∷ xs) ys d
      further r is = record { nearest = r.nearest; is = rw is r.is; below = r.below }

      by : (Among d xs → HasNearest xs ys d) → (b : Bool) → list_any (bytes_eq x) ys ≡ b → HasNearest (x ∷ xs) ys d
      by rest true is = record { nearest = x; is = rw is refl; below = o.0 d h }
      by rest false is = ⊎_elim
          (λ (e : d ≡ x). absurd (let f : list_any (bytes_eq x) ys ≡ true = subst (λ (d : List ℕ). Among d ys) e g in let fall : ⊥ = cc in fall))
          (λ (f : Among d xs). further (rest f) is)
          (either d x xs h)

  pub class_first : (m n c : List ℕ) → join_class P m n ≡ Some c → Above P C m c × Above P C n c
  class_first m n c e = common_first (classes_from P m) (classes_from P n) c e

  pub record HasClass (m n d : List ℕ) : Type 0 where
    pub nearest : List ℕ
    pub is : join_class P m n ≡ Some nearest
    pub below : Above P C nearest d

  pub class_least : (m n d : List ℕ) → Above P C m d → Above P C n d → HasClass m n d
  class_least m n d h g = let x = common_least (classes_from P m) (classes_from P n) d (ordered m) h g in record { nearest = x.nearest; is = x.is; below = x.below }

  -- of a class's own descriptor
  ended : (n : List ℕ) → n ++ codes ";" ≡ without_last (n ++ codes ";") ++ codes ";"
  ended n = ap (λ (m : List ℕ). m ++ codes ";") (sym (inner_name n))

  abbrev WithinElement : List ℕ → List ℕ → Type 0
  WithinElement m n = is_element_within P m n ≡ true

  object_below : (n : List ℕ) → Above P C (without_last n) object_class → WithinElement (76 ∷ n) object_descriptor
  object_below n h = shaped P 76 n 76 (object_class ++ codes ";") (class refl refl (ended object_class) h)

  arrays_below : (m : List ℕ) → WithinElement (91 ∷ m) object_descriptor
  arrays_below m = shaped P 91 m 76 (object_class ++ codes ";") (under_object refl refl refl)

  class_below : (n c : List ℕ) → Above P C (without_last n) c → WithinElement (76 ∷ n) (class_descriptor c)
  class_below n c h = shaped P 76 n 76 (c ++ codes ";") (class refl refl (ended c) (subst (Above P C (without_last n)) (sym (inner_name c)) h))

  abbrev AreBelow : List ℕ → List ℕ → List ℕ → Type 0
  AreBelow m n x = WithinElement m x × WithinElement n x

  over_first : (m n : List ℕ) (o : Option (List ℕ)) → ((x : List ℕ) → o ≡ Some x → AreBelow m n x) → AreBelow (91 ∷ m) (91 ∷ n) (arrays_over o)
  over_first m n None h = (arrays_below m, arrays_below n)
  over_first m n (Some x) h = let p = h x refl in (shaped P 91 m 91 x (deeper refl refl p.0), shaped P 91 n 91 x (deeper refl refl p.1))

  under_first : (n x : List ℕ) → ord.under_object P n ≡ Some x → (x ≡ object_descriptor) × Above P C (without_last n) object_class
  under_first n x e = by (is_class_above P (without_last n) object_class) refl e
    where
      by : (b : Bool) → is_class_above P (without_last n) object_class ≡ b → (if b then Some object_descriptor else None) ≡ Some x → (x ≡ object_descriptor) × Above P C (without_last n) object_class
      by true is e = (cc, is)
      by false is e = cc

  number_is : (c d : ℕ) → (c == d) ≡ true → c ≡ d
  number_is c d e = grind (arith, nat_tests)

  number_not : (c d : ℕ) → (c == d) ≡ false → c ≢ d
  number_not c d e = grind (arith, nat_tests)

  -- what is above two elements is above each
  pub element_first : (m n x : List ℕ) → join_element P m n ≡ Some x → AreBelow m n x
  element_first [] n x e = cc
  element_first (c ∷ m) [] x e = cc
  element_first (c ∷ m) (d ∷ n) x e = by (element_first m n) (c == 91) (d == 91) (c == 76) (d == 76) refl refl refl refl e
    where
      by : ((x : List ℕ) → join_element P m n ≡ Some x → AreBelow m n x) → (c1 d1 c2 d2 : Bool) → (c == 91) ≡ c1 → (d == 91) ≡ d1 → (c == 76) ≡ c2 → (d == 76) ≡ d2
          → (if c1 then (if d1 then Some (arrays_over (join_element P m n)) else (if d2 then ord.under_object P n else None))
          else (if c2 then (if d2 then option_map class_descriptor (join_class P (without_last m) (without_last n)) else (if d1 then ord.under_object P m else None))
          else (if bytes_eq (c ∷ m) (d ∷ n) then Some (c ∷ m) else None))) ≡ Some x → AreBelow (c ∷ m) (d ∷ n) x
      by rest true true c2 d2 e1 e2 e3 e4 e =
          let p = number_is c 91 e1 in
          let q = number_is d 91 e2 in
          let s : arrays_over (join_element P m n) ≡ x = cc in
          subst (λ (c : ℕ). AreBelow (c ∷ m) (d ∷ n) x) (sym p) (subst (λ (d : ℕ). AreBelow (91 ∷ m) (d ∷ n) x) (sym q)
          (subst (AreBelow (91 ∷ m) (91 ∷ n)) s (over_first m n (join_element P m n) rest)))
      by rest true false c2 true e1 e2 e3 e4 e =
          let p = number_is c 91 e1 in
          let q = number_is d 76 e4 in
          let u = under_first n x e in
          subst (λ (c : ℕ). AreBelow (c ∷ m) (d ∷ n) x) (sym p) (subst (λ (d : ℕ). AreBelow (91 ∷ m) (d ∷ n) x) (sym q)
          (subst (AreBelow (91 ∷ m) (76 ∷ n)) (sym u.0) (arrays_below m, object_below n u.1)))
      by rest true false c2 false e1 e2 e3 e4 e = cc
      by rest false d1 true true e1 e2 e3 e4 e =
          let p = number_is c 76 e3 in
          let q = number_is d 76 e4 in
          subst (λ (c : ℕ). AreBelow (c ∷ m) (d ∷ n) x) (sym p) (subst (λ (d : ℕ). AreBelow (76 ∷ m) (d ∷ n) x) (sym q)
          (of (join_class P (without_last m) (without_last n)) refl e))
        where
          of : (o : Option (List ℕ)) → join_class P (without_last m) (without_last n) ≡ o → option_map class_descriptor o ≡ Some x → AreBelow (76 ∷ m) (76 ∷ n) x
          of None is e = cc
          of (Some k) is e = let f = class_first (without_last m) (without_last n) k is in let s : class_descriptor k ≡ x = cc in subst (AreBelow (76 ∷ m) (76 ∷ n)) s (class_below m k f.0, class_below n k f.1)
      by rest false true true false e1 e2 e3 e4 e =
          let p = number_is c 76 e3 in
          let q = number_is d 91 e2 in
          let u = under_first m x e in
          subst (λ (c : ℕ). AreBelow (c ∷ m) (d ∷ n) x) (sym p) (subst (λ (d : ℕ). AreBelow (76 ∷ m) (d ∷ n) x) (sym q)
          (subst (AreBelow (76 ∷ m) (91 ∷ n)) (sym u.0) (object_below m u.1, arrays_below n)))
      by rest false false true false e1 e2 e3 e4 e = cc
      by rest false d1 false d2 e1 e2 e3 e4 e = of (bytes_eq (c ∷ m) (d ∷ n)) refl e
        where
          of : (b : Bool) → bytes_eq (c ∷ m) (d ∷ n) ≡ b → (if b then Some (c ∷ m) else None) ≡ Some x → AreBelow (c ∷ m) (d ∷ n) x
          of true is e =
              let s : c ∷ m ≡ x = cc in
              let t = (bytes_eq-Decides (c ∷ m) (d ∷ n)).0 is in
              let self : WithinElement (c ∷ m) (c ∷ m) = shaped P c m c m (same (number_not c 91 e1) (number_not c 76 e3) refl) in
              subst (AreBelow (c ∷ m) (d ∷ n)) s (self, subst (λ (n : List ℕ). WithinElement n (c ∷ m)) t self)
          of false is e = cc

  -- and is at most each that is above both
  pub record HasElement (m n p : List ℕ) : Type 0 where
    pub least : List ℕ
    pub is : join_element P m n ≡ Some least
    pub below : WithinElement least p

  over_least : (m n p : List ℕ) → HasElement m n p → WithinElement (arrays_over (join_element P m n)) (91 ∷ p)
  over_least m n p h = let e = h.is in subst (λ (o : Option (List ℕ)). WithinElement (arrays_over o) (91 ∷ p)) (sym e) (shaped P 91 h.least 91 p (deeper refl refl h.below))

  over_object : (o : Option (List ℕ)) → WithinElement (arrays_over o) object_descriptor
  over_object None = object_below (object_class ++ codes ";") (subst (λ (n : List ℕ). Above P C n object_class) (sym (inner_name object_class)) object_self)
  over_object (Some x) = arrays_below x

  same_object : (q : List ℕ) → q ≡ object_class ++ codes ";" → WithinElement object_descriptor (76 ∷ q)
  same_object q e = subst (λ (q : List ℕ). WithinElement object_descriptor (76 ∷ q)) (sym e) (over_object None)

  -- by what the two are: arrays, classes, or the same primitive type
  both_arrays : (m n p : List ℕ) → WithinElement (arrays_over (join_element P m n)) p → HasElement (91 ∷ m) (91 ∷ n) p
  both_arrays m n p h = record { least = arrays_over (join_element P m n); is = refl; below = h }

  under_is : (n : List ℕ) → Above P C (without_last n) object_class → ord.under_object P n ≡ Some object_descriptor
  under_is n h = rw h refl

  array_and_class : (m n q : List ℕ) → q ≡ object_class ++ codes ";" → Above P C (without_last n) (without_last q) → HasElement (91 ∷ m) (76 ∷ n) (76 ∷ q)
  array_and_class m n q e h = record { least = object_descriptor; is = under_is n (subst (Above P C (without_last n)) (ap without_last e ∙ inner_name object_class) h); below = same_object q e }

  class_and_array : (m n q : List ℕ) → q ≡ object_class ++ codes ";" → Above P C (without_last m) (without_last q) → HasElement (76 ∷ m) (91 ∷ n) (76 ∷ q)
  class_and_array m n q e h = record { least = object_descriptor; is = under_is m (subst (Above P C (without_last m)) (ap without_last e ∙ inner_name object_class) h); below = same_object q e }

  both_classes : (m n q : List ℕ) → q ≡ without_last q ++ codes ";" → Above P C (without_last m) (without_last q) → Above P C (without_last n) (without_last q) → HasElement (76 ∷ m) (76 ∷ n) (76 ∷ q)
  both_classes m n q e h g =
      let x = class_least (without_last m) (without_last n) (without_last q) h g in
      let c = x.nearest in
      let is = x.is in
      record {
        least = class_descriptor c;
        is = rw is refl;
        below = shaped P 76 (c ++ codes ";") 76 q (class refl refl e (subst (λ (n : List ℕ). Above P C n (without_last q)) (sym (inner_name c)) x.below));
      }

  both_same : (c : ℕ) (m : List ℕ) → c ≢ 91 → c ≢ 76 → HasElement (c ∷ m) (c ∷ m) (c ∷ m)
  both_same c m p q =
      let a : (c == 91) ≡ false = grind (arith, nat_tests) in
      let b : (c == 76) ≡ false = grind (arith, nat_tests) in
      let s = (bytes_eq-Decides (c ∷ m) (c ∷ m)).1 refl in
      record { least = c ∷ m; is = rw (a, b, s) refl; below = shaped P c m c m (same p q refl) }

  pub element_least : (m n p : List ℕ) → WithinElement m p → WithinElement n p → HasElement m n p
  element_least [] n p h g = cc
  element_least (c ∷ m) [] p h g = cc
  element_least (c ∷ m) (d ∷ n) [] h g = cc
  element_least (c ∷ m) (d ∷ n) (e ∷ p) h g = by (element_least m n p) (shape P c m e p h) (shape P d n e p g)
    where
      at : (x y z : ℕ) → c ≡ x → d ≡ y → e ≡ z → HasElement (x ∷ m) (y ∷ n) (z ∷ p) → HasElement (c ∷ m) (d ∷ n) (e ∷ p)
      at x y z a b k r = subst (λ (c : ℕ). HasElement (c ∷ m) (d ∷ n) (e ∷ p)) (sym a) (subst (λ (d : ℕ). HasElement (x ∷ m) (d ∷ n) (e ∷ p)) (sym b) (subst (λ (e : ℕ). HasElement (x ∷ m) (y ∷ n) (e ∷ p)) (sym k) r))

      by : (WithinElement m p → WithinElement n p → HasElement m n p) → Shape P c m e p → Shape P d n e p → HasElement (c ∷ m) (d ∷ n) (e ∷ p)
      by rest (deeper x y h) (deeper z w g) = at 91 91 91 x z y (both_arrays m n (91 ∷ p) (over_least m n p (rest h g)))
      by rest (deeper x y h) (under_object z w g) = absurd (omega (arith, y, w))
      by rest (deeper x y h) (class z w g i) = absurd (omega (arith, y, w))
      by rest (deeper x y h) (same z w g) = absurd (let s : d ≡ e = cc in z (s ∙ y))
      by rest (under_object x y h) (deeper z w g) = absurd (omega (arith, y, w))
      by rest (under_object x y h) (under_object z w g) = at 91 91 76 x z y (both_arrays m n (76 ∷ p) (subst (λ (q : List ℕ). WithinElement (arrays_over (join_element P m n)) (76 ∷ q)) (sym h) (over_object (join_element P m n))))
      by rest (under_object x y h) (class z w g i) = at 91 76 76 x z y (array_and_class m n p h i)
      by rest (under_object x y h) (same z w g) = absurd (let s : d ≡ e = cc in w (s ∙ y))
      by rest (class x y h i) (deeper z w g) = absurd (omega (arith, y, w))
      by rest (class x y h i) (under_object z w g) = at 76 91 76 x z y (class_and_array m n p g i)
      by rest (class x y h i) (class z w g j) = at 76 76 76 x z y (both_classes m n p h i j)
      by rest (class x y h i) (same z w g) = absurd (let s : d ≡ e = cc in w (s ∙ y))
      by rest (same x y h) (deeper z w g) = absurd (let s : c ≡ e = cc in x (s ∙ w))
      by rest (same x y h) (under_object z w g) = absurd (let s : c ≡ e = cc in y (s ∙ w))
      by rest (same x y h) (class z w g i) = absurd (let s : c ≡ e = cc in y (s ∙ w))
      by rest (same x y h) (same z w g) =
          let hc : c ≡ e = cc in let gd : d ≡ e = cc in let hm : m ≡ p = cc in let gn : n ≡ p = cc in
          let r = both_same e p (λ k. x (hc ∙ k)) (λ k. y (hc ∙ k)) in
          at e e e hc gd refl (subst (λ (m : List ℕ). HasElement (e ∷ m) (e ∷ n) (e ∷ p)) (sym hm) (subst (λ (n : List ℕ). HasElement (e ∷ p) (e ∷ n) (e ∷ p)) (sym gn) r))

  -- a class or an array above two is above each
  abbrev AreUnder : List ℕ → List ℕ → List ℕ → Type 0
  AreUnder m n x = IsWithin P (Ref m) (Ref x) × IsWithin P (Ref n) (Ref x)

  arrays_first : (m n : List ℕ) → is_array m ≡ true → is_array n ≡ true → (o : Option (List ℕ)) → ((x : List ℕ) → o ≡ Some x → AreBelow (drop 1 m) (drop 1 n) x) → AreUnder m n (array_over o)
  arrays_first m n a b None h = (is_within_by P m object_class (object a refl), is_within_by P n object_class (object b refl))
  arrays_first m n a b (Some x) h = let p = h x refl in (is_within_by P m (91 ∷ x) (arrays a refl p.0), is_within_by P n (91 ∷ x) (arrays b refl p.1))

  over_first_of : (n x : List ℕ) → object_over P n ≡ Some x → (x ≡ object_class) × Above P C n object_class
  over_first_of n x e = by (is_class_above P n object_class) refl e
    where
      by : (b : Bool) → is_class_above P n object_class ≡ b → (if b then Some object_class else None) ≡ Some x → (x ≡ object_class) × Above P C n object_class
      by true is e = (cc, is)
      by false is e = cc

  pub name_first : (m n x : List ℕ) → join_name P m n ≡ Some x → AreUnder m n x
  name_first m n x e = by (is_array m) (is_array n) refl refl e
    where
      by : (a b : Bool) → is_array m ≡ a → is_array n ≡ b → (if a then (if b then Some (array_over (join_element P (drop 1 m) (drop 1 n))) else object_over P n) else (if b then object_over P m else join_class P m n)) ≡ Some x → AreUnder m n x
      by true true i j e = let s : array_over (join_element P (drop 1 m) (drop 1 n)) ≡ x = cc in subst (AreUnder m n) s (arrays_first m n i j (join_element P (drop 1 m) (drop 1 n)) (element_first (drop 1 m) (drop 1 n)))
      by true false i j e = let o = over_first_of n x e in subst (AreUnder m n) (sym o.0) (is_within_by P m object_class (object i refl), is_within_by P n object_class (classes j o.1))
      by false true i j e = let o = over_first_of m x e in subst (AreUnder m n) (sym o.0) (is_within_by P m object_class (classes i o.1), is_within_by P n object_class (object j refl))
      by false false i j e = let f = class_first m n x e in (is_within_by P m x (classes i f.0), is_within_by P n x (classes j f.1))

  -- and is at most each that is above both
  pub record HasName (m n p : List ℕ) : Type 0 where
    pub least : List ℕ
    pub is : join_name P m n ≡ Some least
    pub below : IsWithin P (Ref least) (Ref p)

  array_below : (p : List ℕ) → is_array p ≡ true → (o : Option (List ℕ)) → (l : List ℕ) → o ≡ Some l → WithinElement l (drop 1 p) → IsWithin P (Ref (array_over o)) (Ref p)
  array_below p a o l e h = subst (λ (o : Option (List ℕ)). IsWithin P (Ref (array_over o)) (Ref p)) (sym e) (is_within_by P (91 ∷ l) p (arrays refl a h))

  array_object : (p : List ℕ) → p ≡ object_class → (o : Option (List ℕ)) → IsWithin P (Ref (array_over o)) (Ref p)
  array_object p e None = subst (λ (p : List ℕ). IsWithin P (Ref object_class) (Ref p)) (sym e) (is_within_by P object_class object_class (classes refl object_self))
  array_object p e (Some x) = is_within_by P (91 ∷ x) p (object refl e)

  from_object : (p : List ℕ) → p ≡ object_class → IsWithin P (Ref object_class) (Ref p)
  from_object p e = array_object p e None

  over_is : (n p : List ℕ) → p ≡ object_class → Above P C n p → object_over P n ≡ Some object_class
  over_is n p e h = let a : is_class_above P n object_class ≡ true = subst (Above P C n) e h in rw a refl

  pub name_least : (m n p : List ℕ) → IsWithin P (Ref m) (Ref p) → IsWithin P (Ref n) (Ref p) → HasName m n p
  name_least m n p h g = by (within P m p h) (within P n p g)
    where
      by : Within P m p → Within P n p → HasName m n p
      by (arrays x y h) (arrays z w g) =
          let r = element_least (drop 1 m) (drop 1 n) (drop 1 p) h g in
          record { least = array_over (join_element P (drop 1 m) (drop 1 n)); is = rw (x, z) refl; below = array_below p y (join_element P (drop 1 m) (drop 1 n)) r.least r.is r.below }
      by (arrays x y h) (object z g) = absurd (let e = ap is_array g in let fall : ⊥ = cc in fall)
      by (arrays x y h) (classes z g) = absurd (let e = array_above P C n p g y in let fall : ⊥ = cc in fall)
      by (object x h) (arrays z w g) = absurd (let e = ap is_array h in let fall : ⊥ = cc in fall)
      by (object x h) (object z g) = record { least = array_over (join_element P (drop 1 m) (drop 1 n)); is = rw (x, z) refl; below = array_object p h (join_element P (drop 1 m) (drop 1 n)) }
      by (object x h) (classes z g) = let o = over_is n p h g in record { least = object_class; is = rw (x, z) o; below = from_object p h }
      by (classes x h) (arrays z w g) = absurd (let e = array_above P C m p h w in let fall : ⊥ = cc in fall)
      by (classes x h) (object z g) = let o = over_is m p g h in record { least = object_class; is = rw (x, z) o; below = from_object p g }
      by (classes x h) (classes z g) = both_plain x z (class_least m n p h g)
        where
          plain : (c : List ℕ) → Above P C m c → is_array m ≡ false → (b : Bool) → is_array c ≡ b → is_array c ≡ false
          plain c a e true i = let f = array_above P C m c a i in cc
          plain c a e false i = i

          both_plain : is_array m ≡ false → is_array n ≡ false → HasClass m n p → HasName m n p
          both_plain x z r = let f = class_first m n r.nearest r.is in let is = r.is in record { least = r.nearest; is = rw (x, z) is; below = is_within_by P r.nearest p (classes (plain r.nearest f.0 x (is_array r.nearest) refl) r.below) }
