-- Names that are within one another are the same.
use Rattle.std.proofs.Common.{◌≡◌, ℕ, ◌≤◌, List, [], ◌∷◌, ◌++◌, length, drop, Option, Some, Bool, true, false, refl, sym, ap, subst, ◌∙◌, arith, ⊎_elim}
use Rattle.std.specs.Prelude.{bytes_eq, codes, ◌&&◌, ◌==◌, if◌then◌else◌}
use Rattle.std.proofs.lemmas.Bool.Decides.{nat_tests}
use Rattle.std.proofs.lemmas.Slice.Eq.{bytes_eq-Decides}
use Rattle.objects.specs.semantics.Program.{Declared, Row, Program, row_at}
use Rattle.objects.specs.typing.TypeOrder.{object_class, conflict_classes, from_class, classes_from, above_in, is_array, without_last, is_class_above, is_ended, is_element_within, is_reference_within}
use Rattle.objects.specs.typing.Source.{IsClass, AreTypes}
use Rattle.objects.proofs.Order.{Among, either, first, Above, by_class, class_row, by_found, free_is, array_above}

-- no name is among none
none : (n : List ℕ) → Among n [] → ⊥
none n h = cc

both : (a b : Bool) → (a && b) ≡ true → (a ≡ true) × (b ≡ true)
both true b e = (refl, e)
both false b e = cc

module _ (P : Program) (C : AreTypes P) where
  -- ---- classes

  -- the classes from one of the program on
  above_is : (r : Row) (ds : List Declared) → IsClass P r ds → classes_from P r.name ≡ r.lineage
  above_is r ds c = ap (λ (o : Option Row). above_in o r.name) c.found

  -- in such a list each class begins the classes from it on
  abbrev IsUpward : List (List ℕ) → Type 0
  IsUpward [] = Unit {0}
  IsUpward (x ∷ xs) = (classes_from P x ≡ x ∷ xs) × IsUpward xs

  -- the classes above one of the program are so
  upward_class : (r : Row) (ds : List Declared) → IsClass P r ds → IsUpward r.lineage
  upward_class = by_class P C (λ r ds. IsUpward r.lineage)
      (λ r ds c n e. subst IsUpward (sym e) (above_is r ds c ∙ e, tt))
      (λ r ds c u d rest. subst IsUpward (sym u.lineage) (above_is r ds c ∙ u.lineage, rest))

  object_is : classes_from P object_class ≡ object_class ∷ []
  object_is = C.conflict.1.1.1.1.0

  -- each list that ends the conflict's is so
  abbrev AreUpward : List (List ℕ) → Type 0
  AreUpward [] = Unit {0}
  AreUpward (n ∷ ns) = IsUpward (n ∷ ns) × AreUpward ns

  -- one class more in front
  ends_with : (n : List ℕ) (ns : List (List ℕ)) → classes_from P n ≡ n ∷ ns → IsUpward ns → AreUpward ns → AreUpward (n ∷ ns)
  ends_with n ns is rest all = ((is, rest), all)

  -- those above the conflict are so
  conflict_upward : AreUpward conflict_classes
  conflict_upward =
      let x = C.conflict in
      let e5 = ends_with _ [] x.1.1.1.1.0 tt tt in
      let e4 = ends_with _ _ x.1.1.1.0 e5.0 e5 in
      let e3 = ends_with _ _ x.1.1.0 e4.0 e4 in
      let e2 = ends_with _ _ x.1.0 e3.0 e3 in
      ends_with _ _ x.0 e2.0 e2

  -- so are those above a class that is not the program's
  free_upward : (a : List ℕ) → classes_from P a ≡ from_class a conflict_classes → IsUpward (from_class a conflict_classes)
  free_upward a is = go conflict_classes conflict_upward is
    where
      go : (ns : List (List ℕ)) → AreUpward ns → classes_from P a ≡ from_class a ns → IsUpward (from_class a ns)
      go [] all e = (e, (object_is, tt))
      go (n ∷ ns) all e = by (go ns all.1) (bytes_eq a n) e
        where
          by : (classes_from P a ≡ from_class a ns → IsUpward (from_class a ns)) → (b : Bool) → classes_from P a ≡ (if b then n ∷ ns else from_class a ns) → IsUpward (if b then n ∷ ns else from_class a ns)
          by rest true e = all.0
          by rest false e = rest e

  -- so are those above each class
  upward : (n : List ℕ) → IsUpward (classes_from P n)
  upward n = by_found P C (IsUpward (classes_from P n)) n
      (λ t r row name above. subst IsUpward (sym above) (known t r row (r.lineage) refl))
      (λ free. let e = free_is P C n free in subst IsUpward (sym e) (free_upward n e))
    where
      known : (t : ℕ) (r : Row) → row_at P t ≡ Some r → (ns : List (List ℕ)) → r.lineage ≡ ns → IsUpward r.lineage
      known t r row [] e = subst IsUpward (sym e) tt
      known t r row (x ∷ xs) e = let k = class_row P C t r row x (subst (Among x) (sym e) (first x xs)) in upward_class r k.0 k.1

  -- a class among some has no more above it
  upward_length : (xs : List (List ℕ)) (c : List ℕ) → IsUpward xs → Among c xs → length (classes_from P c) ≤ length xs
  upward_length [] c u a = absurd (none c a)
  upward_length (x ∷ xs) c u a = ⊎_elim
      (λ (e : c ≡ x). let s : classes_from P c ≡ x ∷ xs = subst (λ (c : List ℕ). classes_from P c ≡ x ∷ xs) (sym e) u.0 in let l = ap length s in omega arith)
      (λ (f : Among c xs). let r = upward_length xs c u.1 f in omega arith)
      (either c x xs a)

  -- The classes from a class that is above some begin with it.
  begins_with : (xs : List (List ℕ)) (m : List ℕ) → IsUpward xs → Among m xs → (ys : List (List ℕ)) × (classes_from P m ≡ m ∷ ys)
  begins_with [] m u a = absurd (none m a)
  begins_with (x ∷ xs) m u a = ⊎_elim
      (λ (e : m ≡ x). (xs, subst (λ (c : List ℕ). classes_from P c ≡ c ∷ xs) (sym e) u.0))
      (λ (f : Among m xs). begins_with xs m u.1 f)
      (either m x xs a)

  -- classes that are above one another are the same
  class_same : (m n : List ℕ) → Above P C m n → Above P C n m → m ≡ n
  class_same m n a b = go (begins_with (classes_from P n) m (upward n) b)
    where
      go : (ys : List (List ℕ)) × (classes_from P m ≡ m ∷ ys) → m ≡ n
      go r =
          let inside : IsUpward (m ∷ r.0) = subst IsUpward r.1 (upward m) in
          ⊎_elim
          (λ (e : n ≡ m). sym e)
          (λ (f : Among n r.0).
          let up = upward_length r.0 n inside.1 f in
          let down = upward_length (classes_from P n) m (upward n) b in
          let long = ap length r.1 in
          absurd (let no : ⊥ = omega (arith, up, down, long) in no))
          (either n m r.0 (subst (Among n) r.1 a))

  -- ---- elements

  ended : (m : List ℕ) → is_ended m ≡ true → m ≡ without_last m ++ codes ";"
  ended m e = (bytes_eq-Decides m (without_last m ++ codes ";")).0 e

  described_same : (m n : List ℕ) → is_ended m ≡ true → is_ended n ≡ true → is_class_above P (without_last m) (without_last n) ≡ true → is_class_above P (without_last n) (without_last m) ≡ true → m ≡ n
  described_same m n e f a b = ended m e ∙ ap (λ (t : List ℕ). t ++ codes ";") (class_same (without_last m) (without_last n) a b) ∙ sym (ended n f)

  element_same : (m n : List ℕ) → is_element_within P m n ≡ true → is_element_within P n m ≡ true → m ≡ n
  element_same [] n a b = cc
  element_same (c ∷ m) [] a b = cc
  element_same (c ∷ m) (d ∷ n) a b = by (c == 91) (d == 91) (c == 76) (d == 76) refl refl refl refl a b (λ f g. element_same m n f g)
    where
      by : (p q r s : Bool) → (c == 91) ≡ p → (d == 91) ≡ q → (c == 76) ≡ r → (d == 76) ≡ s
          → (if p then (if q then is_element_within P m n else s && bytes_eq n (object_class ++ codes ";")) else (if r then s && (is_ended n && is_class_above P (without_last m) (without_last n)) else bytes_eq (c ∷ m) (d ∷ n))) ≡ true
          → (if q then (if p then is_element_within P n m else r && bytes_eq m (object_class ++ codes ";")) else (if s then r && (is_ended m && is_class_above P (without_last n) (without_last m)) else bytes_eq (d ∷ n) (c ∷ m))) ≡ true
          → (is_element_within P m n ≡ true → is_element_within P n m ≡ true → m ≡ n) → c ∷ m ≡ d ∷ n
      by true true r s e f g h a b rest =
          let x : c ≡ 91 = grind (arith, nat_tests) in
          let y : d ≡ 91 = grind (arith, nat_tests) in
          ap (λ (k : ℕ). k ∷ m) (x ∙ sym y) ∙ ap (λ (l : List ℕ). d ∷ l) (rest a b)
      by true false r true e f g h a b rest =
          let x : c ≡ 91 = grind (arith, nat_tests) in
          let no : r ≡ false = (let u = sym g in grind (arith, nat_tests)) in
          absurd (let fall : ⊥ = (let v : (false && (is_ended m && is_class_above P (without_last n) (without_last m))) ≡ true = subst (λ (z : Bool). (z && (is_ended m && is_class_above P (without_last n) (without_last m))) ≡ true) no b in cc) in fall)
      by true false r false e f g h a b rest = cc
      by false true true s e f g h a b rest =
          let y : d ≡ 91 = grind (arith, nat_tests) in
          let no : s ≡ false = (let u = sym h in grind (arith, nat_tests)) in
          absurd (let fall : ⊥ = (let v : (false && (is_ended n && is_class_above P (without_last m) (without_last n))) ≡ true = subst (λ (z : Bool). (z && (is_ended n && is_class_above P (without_last m) (without_last n))) ≡ true) no a in cc) in fall)
      by false true false s e f g h a b rest = (bytes_eq-Decides (c ∷ m) (d ∷ n)).0 a
      by false false true true e f g h a b rest =
          let x : c ≡ 76 = grind (arith, nat_tests) in
          let y : d ≡ 76 = grind (arith, nat_tests) in
          let t = both (is_ended n) (is_class_above P (without_last m) (without_last n)) a in
          let u = both (is_ended m) (is_class_above P (without_last n) (without_last m)) b in
          ap (λ (k : ℕ). k ∷ m) (x ∙ sym y) ∙ ap (λ (l : List ℕ). d ∷ l) (described_same m n u.0 t.0 t.1 u.1)
      by false false true false e f g h a b rest = cc
      by false false false s e f g h a b rest = (bytes_eq-Decides (c ∷ m) (d ∷ n)).0 a

  -- ---- names

  array_front : (m : List ℕ) → is_array m ≡ true → m ≡ 91 ∷ drop 1 m
  array_front [] e = cc
  array_front (c ∷ m) e = let x : c ≡ 91 = grind (arith, nat_tests) in ap (λ (k : ℕ). k ∷ m) x

  -- names that are within one another are the same
  pub name_same : (m n : List ℕ) → is_reference_within P m n ≡ true → is_reference_within P n m ≡ true → m ≡ n
  name_same m n a b = by (is_array m) (is_array n) refl refl a b
    where
      by : (p q : Bool) → is_array m ≡ p → is_array n ≡ q → (if p then (if q then is_element_within P (drop 1 m) (drop 1 n) else bytes_eq n object_class) else is_class_above P m n) ≡ true
          → (if q then (if p then is_element_within P (drop 1 n) (drop 1 m) else bytes_eq m object_class) else is_class_above P n m) ≡ true → m ≡ n
      by true true e f a b = array_front m e ∙ ap (λ (l : List ℕ). 91 ∷ l) (element_same (drop 1 m) (drop 1 n) a b) ∙ sym (array_front n f)
      by true false e f a b = absurd (let g = array_above P C n m b e in let fall : ⊥ = cc in fall)
      by false true e f a b = absurd (let g = array_above P C m n a f in let fall : ⊥ = cc in fall)
      by false false e f a b = class_same m n a b
