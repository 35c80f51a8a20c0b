-- The classes above a class are fewer than those above what is below it.
use Rattle.std.proofs.Common.{◌≡◌, ℕ, ◌<◌, ◌≤◌, List, [], ◌∷◌, length, Option, Some, Bool, true, false, refl, sym, ap, subst, ◌∙◌, arith, ⊎_elim}
use Rattle.std.specs.Prelude.{bytes_eq, if◌then◌else◌}
use Rattle.objects.specs.semantics.Program.{Declared, Row, Program, row_at}
use Rattle.objects.specs.typing.TypeOrder.{object_class, conflict_classes, from_class, classes_from, above_in}
use Rattle.objects.specs.typing.Source.{IsClass, AreTypes}
use Rattle.objects.proofs.Order.{Among, either, first, Above, by_class, class_row, by_found, free_is}

-- no name is among none
none : (n : List ℕ) → Among n [] → ⊥
none n h = cc

module _ (P : Program) (C : AreTypes P) where
  -- the classes from one of the program on
  above_is : (r : Row) (ds : List Declared) → IsClass P r ds → classes_from P r.name ≡ r.lineage
  above_is r ds c = ap (λ (o : Option Row). above_in o r.name) c.found

  -- in such a list each class begins the classes from it on
  abbrev IsUpward : List (List ℕ) → Type 0
  IsUpward [] = Unit {0}
  IsUpward (x ∷ xs) = (classes_from P x ≡ x ∷ xs) × IsUpward xs

  -- the classes above one of the program are so
  upward_class : (r : Row) (ds : List Declared) → IsClass P r ds → IsUpward r.lineage
  upward_class = by_class P C (λ r ds. IsUpward r.lineage)
      (λ r ds c n e. subst IsUpward (sym e) (above_is r ds c ∙ e, tt))
      (λ r ds c u d rest. subst IsUpward (sym u.lineage) (above_is r ds c ∙ u.lineage, rest))

  pub object_is : classes_from P object_class ≡ object_class ∷ []
  object_is = C.conflict.1.1.1.1.0

  -- each list that ends the conflict's is so
  abbrev AreUpward : List (List ℕ) → Type 0
  AreUpward [] = Unit {0}
  AreUpward (n ∷ ns) = IsUpward (n ∷ ns) × AreUpward ns

  -- one class more in front
  ends_with : (n : List ℕ) (ns : List (List ℕ)) → classes_from P n ≡ n ∷ ns → IsUpward ns → AreUpward ns → AreUpward (n ∷ ns)
  ends_with n ns is rest all = ((is, rest), all)

  -- those above the conflict are so
  conflict_upward : AreUpward conflict_classes
  conflict_upward =
      let x = C.conflict in
      let e5 = ends_with _ [] x.1.1.1.1.0 tt tt in
      let e4 = ends_with _ _ x.1.1.1.0 e5.0 e5 in
      let e3 = ends_with _ _ x.1.1.0 e4.0 e4 in
      let e2 = ends_with _ _ x.1.0 e3.0 e3 in
      ends_with _ _ x.0 e2.0 e2

  -- so are those above a class that is not the program's
  free_upward : (a : List ℕ) → classes_from P a ≡ from_class a conflict_classes → IsUpward (from_class a conflict_classes)
  free_upward a is = go conflict_classes conflict_upward is
    where
      go : (ns : List (List ℕ)) → AreUpward ns → classes_from P a ≡ from_class a ns → IsUpward (from_class a ns)
      go [] all e = (e, (object_is, tt))
      go (n ∷ ns) all e = by (go ns all.1) (bytes_eq a n) e
        where
          by : (classes_from P a ≡ from_class a ns → IsUpward (from_class a ns)) → (b : Bool) → classes_from P a ≡ (if b then n ∷ ns else from_class a ns) → IsUpward (if b then n ∷ ns else from_class a ns)
          by rest true e = all.0
          by rest false e = rest e

  -- so are those above each class
  upward : (n : List ℕ) → IsUpward (classes_from P n)
  upward n = by_found P C (IsUpward (classes_from P n)) n
      (λ t r row name above. subst IsUpward (sym above) (known t r row (r.lineage) refl))
      (λ free. let e = free_is P C n free in subst IsUpward (sym e) (free_upward n e))
    where
      known : (t : ℕ) (r : Row) → row_at P t ≡ Some r → (ns : List (List ℕ)) → r.lineage ≡ ns → IsUpward r.lineage
      known t r row [] e = subst IsUpward (sym e) tt
      known t r row (x ∷ xs) e = let k = class_row P C t r row x (subst (Among x) (sym e) (first x xs)) in upward_class r k.0 k.1

  -- a class among some has no more above it
  upward_length : (xs : List (List ℕ)) (c : List ℕ) → IsUpward xs → Among c xs → length (classes_from P c) ≤ length xs
  upward_length [] c u a = absurd (none c a)
  upward_length (x ∷ xs) c u a = ⊎_elim
      (λ (e : c ≡ x). let s : classes_from P c ≡ x ∷ xs = subst (λ (c : List ℕ). classes_from P c ≡ x ∷ xs) (sym e) u.0 in let l = ap length s in omega arith)
      (λ (f : Among c xs). let r = upward_length xs c u.1 f in omega arith)
      (either c x xs a)

  -- a class that is above another has no more above it
  pub class_up : (m c : List ℕ) → Above P C m c → length (classes_from P c) ≤ length (classes_from P m)
  class_up m c a = upward_length (classes_from P m) c (upward m) a

  -- and fewer, where the first class isn't above it
  pub class_less : (m c : List ℕ) → Above P C m c → Above P C m m → (Above P C c m → ⊥) → length (classes_from P c) < length (classes_from P m)
  class_less m c a s fails = go (classes_from P m) (upward m) a s
    where
      go : (xs : List (List ℕ)) → IsUpward xs → Among c xs → Among m xs → length (classes_from P c) < length xs
      go [] u a s = absurd (none c a)
      go (x ∷ xs) u a s = ⊎_elim
          (λ (e : c ≡ x). absurd (fails (let f : classes_from P c ≡ x ∷ xs = subst (λ (c : List ℕ). classes_from P c ≡ x ∷ xs) (sym e) u.0 in subst (Among m) (sym f) s)))
          (λ (f : Among c xs). let r = upward_length xs c u.1 f in omega arith)
          (either c x xs a)
