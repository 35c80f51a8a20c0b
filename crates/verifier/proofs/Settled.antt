-- The narrowest type above a type that is within itself, and itself, is that type.
use Rattle.std.proofs.Common.{◌≡◌, ℕ, List, [], ◌∷◌, drop, Some, Bool, true, false, refl, sym, ap, subst, ◌∙◌, arith, ⊎_elim}
use Rattle.std.specs.Prelude.{bytes_eq, ◌==◌, ◌&&◌, nat_eq, if◌then◌else◌}
use Rattle.std.specs.List.{list_any}
use Rattle.std.proofs.lemmas.Slice.Eq.{bytes_eq-Decides}
use Rattle.std.proofs.lemmas.Bool.Decides.{nat_tests}
use Rattle.jmodel.specs.declared.typing.VType.{VType}
use Rattle.jmodel.specs.declared.typing.VType.TheVariants.{Int, Long, Second, Null, Ref, Uninit, UninitThis, Top}
use Rattle.objects.specs.semantics.Program.{Declared, Row, Program}
use Rattle.objects.specs.typing.TypeOrder.{object_class, conflict_classes, from_class, IsWithin, is_within, classes_from, is_array, is_class_above, without_last, is_element_within}
use Rattle.objects.specs.typing.Typing.{Types, FitsIn}
use Rattle.objects.specs.typing.Source.{IsClass, IsUnder, AreTypes}
use Rattle.objects.proofs.Order.{Among, first, class_row, by_found, free_is}
use Rattle.objects.proofs.Elements.{Shape, deeper, under_object, class, same, shape, Within, arrays, object, classes, within}
use Rattle.verifier.specs.Order.{first_common, join_class, join_element, join_name, ref_or_top, join, join_all, are_within, joined}
use Rattle.verifier.proofs.Lists.{both, of_within}

module _ (P : Program) (C : AreTypes P) where
  abbrev BeginsWith : List ℕ → List (List ℕ) → Type 0
  BeginsWith n ns = (r : List (List ℕ)) × (ns ≡ n ∷ r)

  class_begins : (r : Row) (ds : List Declared) → IsClass P r ds → BeginsWith r.name r.lineage
  class_begins r ds c = ⊎_elim (λ (e : (r.name ≡ object_class) × (r.lineage ≡ r.name ∷ [])). ([], e.1)) (λ (u : IsUnder P r ds). (u.upper.lineage, u.lineage)) c.placed

  free_begins : (n : List ℕ) (ns : List (List ℕ)) → BeginsWith n (from_class n ns)
  free_begins n [] = (object_class ∷ [], refl)
  free_begins n (c ∷ cs) = by (free_begins n cs) (bytes_eq n c) refl
    where
      by : BeginsWith n (from_class n cs) → (b : Bool) → bytes_eq n c ≡ b → BeginsWith n (if b then c ∷ cs else from_class n cs)
      by rest true e = let s : n ≡ c = (bytes_eq-Decides n c).0 e in (cs, ap (λ (m : List ℕ). m ∷ cs) (sym s))
      by rest false e = rest

  pub begins : (n : List ℕ) → is_class_above P n n ≡ true → BeginsWith n (classes_from P n)
  begins n h = by_found P C (BeginsWith n (classes_from P n)) n
      (λ t r row name above. let k = class_row P C t r row n (subst (Among n) above h) in let b = class_begins r k.0 k.1 in (b.0, above ∙ b.1 ∙ ap (λ (m : List ℕ). m ∷ b.0) name))
      (λ free. let b = free_begins n conflict_classes in (b.0, free_is P C n free ∙ b.1))

  pub class_self : (n : List ℕ) → is_class_above P n n ≡ true → join_class P n n ≡ Some n
  class_self n h = let b = begins n h in subst (λ (ns : List (List ℕ)). first_common ns ns ≡ Some n) (sym b.1) (common b.0)
    where
      common : (r : List (List ℕ)) → first_common (n ∷ r) (n ∷ r) ≡ Some n
      common r = let a : list_any (bytes_eq n) (n ∷ r) ≡ true = first n r in rw a refl

  pub element_self : (n : List ℕ) → is_element_within P n n ≡ true → join_element P n n ≡ Some n
  element_self [] h = cc
  element_self (c ∷ m) h = by (element_self m) (shape P c m c m h)
    where
      by : (is_element_within P m m ≡ true → join_element P m m ≡ Some m) → Shape P c m c m → join_element P (c ∷ m) (c ∷ m) ≡ Some (c ∷ m)
      by rest (deeper x y g) =
          let a : (c == 91) ≡ true = grind (arith, nat_tests) in
          let e = rest g in
          rw (a, e) (ap (λ (c : ℕ). Some (c ∷ m)) (sym x))
      by rest (under_object x y g) = absurd (omega (arith, x, y))
      by rest (class x y g k) =
          let a : (c == 91) ≡ false = grind (arith, nat_tests) in
          let b : (c == 76) ≡ true = grind (arith, nat_tests) in
          let e = class_self (without_last m) k in
          rw (a, b, e) (ap (λ (m : List ℕ). Some (76 ∷ m)) (sym g) ∙ ap (λ (c : ℕ). Some (c ∷ m)) (sym x))
      by rest (same x y g) =
          let a : (c == 91) ≡ false = grind (arith, nat_tests) in
          let b : (c == 76) ≡ false = grind (arith, nat_tests) in
          let e = (bytes_eq-Decides (c ∷ m) (c ∷ m)).1 refl in
          rw (a, b, e) refl

  array_is : (n : List ℕ) → is_array n ≡ true → 91 ∷ drop 1 n ≡ n
  array_is [] h = cc
  array_is (c ∷ m) h = let s : c ≡ 91 = grind (arith, nat_tests) in ap (λ (c : ℕ). c ∷ m) (sym s)

  pub name_self : (n : List ℕ) → IsWithin P (Ref n) (Ref n) → join_name P n n ≡ Some n
  name_self n h = by (within P n n h)
    where
      by : Within P n n → join_name P n n ≡ Some n
      by (arrays x y g) = let e = element_self (drop 1 n) g in rw (x, e) (ap (λ (m : List ℕ). Some m) (array_is n x))
      by (object x y) = absurd (let e : is_array n ≡ false = ap is_array y in let fall : true ≡ false = sym x ∙ e in let no : ⊥ = cc in no)
      by (classes x g) = rw x (class_self n g)

  pub type_self : (t : VType) → is_within P t t ≡ true → join P t t ≡ t
  type_self Int h = refl
  type_self Long h = refl
  type_self Second h = refl
  type_self Null h = refl
  type_self (Ref n) h = ap ref_or_top (name_self n h)
  type_self (Uninit p) h = let e : nat_eq p p ≡ true = grind (arith, nat_tests) in rw e refl
  type_self UninitThis h = refl
  type_self Top h = refl

  pub all_self : (ts : List VType) → are_within P ts ts ≡ true → join_all P ts ts ≡ ts
  all_self [] h = refl
  all_self (t ∷ ts) h = let p = both (is_within P t t) (are_within P ts ts) h in let a = type_self t p.0 in let b = all_self ts p.1 in rw (a, b) refl

  and_same : (b : Bool) → (b && b) ≡ b
  and_same true = refl
  and_same false = refl

  pub settled_is : (h : Types) → are_within P h.locals h.locals ≡ true → are_within P h.stack h.stack ≡ true → joined P h h ≡ h
  settled_is h e f = let a = all_self h.locals e in let b = all_self h.stack f in let c = and_same h.built in rw (a, b, c) refl

  pub fits_settled : (h : Types) → FitsIn P h h → joined P h h ≡ h
  fits_settled h f = settled_is h (of_within P h.locals h.locals f.locals) (of_within P h.stack h.stack f.stack)
