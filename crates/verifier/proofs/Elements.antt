-- The elements of an array, under those of an array above it.
use Rattle.std.proofs.Common.{◌≡◌, ◌≢◌, ℕ, List, [], ◌∷◌, drop, Bool, true, false, refl, sym, ap, subst, ◌∙◌, arith, ◌⊎◌, inl, inr, ⊎_elim}
use Rattle.std.proofs.lemmas.Bool.Decides.{nat_tests}
use Rattle.std.proofs.lemmas.Slice.Eq.{bytes_eq-Decides}
use Rattle.std.specs.Prelude.{bytes_eq, codes, ◌||◌}
use Rattle.jmodel.specs.declared.typing.VType.{VType}
use Rattle.jmodel.specs.declared.typing.VType.TheVariants.{Int, Long, Second, Ref}
use Rattle.objects.specs.declared.op.WordType.{WordType}
use Rattle.objects.specs.declared.op.WordType.TheVariants as word
use Rattle.objects.specs.semantics.Program.{Program}
use Rattle.objects.specs.typing.TypeOrder.{object_class, conflict_classes, from_class, classes_from, is_array, without_last, named_by, is_element_within, IsWithin}
use Rattle.objects.specs.typing.Typing.{begins, has_elements, element_types}
use Rattle.objects.specs.typing.Source.{AreTypes}
use Rattle.objects.proofs.Order.{Among, either, Above, class_row, by_found, free_is, array_above, plain_name}
use Rattle.objects.proofs.Elements.{inner_name, Shape, deeper, under_object, class, same, shape, Within, arrays, object, classes, within, is_within_by}
use Rattle.verifier.proofs.Orders.{within_trans}
use Rattle.verifier.proofs.Under.{IsUnder, AreUnder, under_same}

module _ (P : Program) (C : AreTypes P) where
  pub array_down : (l m : List ℕ) → IsWithin P (Ref l) (Ref m) → is_array m ≡ true → is_array l ≡ true
  array_down l m h e = by (within P l m h)
    where
      by : Within P l m → is_array l ≡ true
      by (arrays x y g) = x
      by (object x g) = x
      by (classes x g) = array_above P C l m g e

  -- above a name of an array that is taken for a class are itself and Object
  array_class : (a c : List ℕ) → is_array a ≡ true → Above P C a c → (c ≡ a) ⊎ (c ≡ object_class)
  array_class a c e h = by_found P C ((c ≡ a) ⊎ (c ≡ object_class)) a
      (λ t r row name above.
      let x = class_row P C t r row c (subst (Among c) above h) in
      absurd (let p : is_array a ≡ false = ap is_array (sym name) ∙ plain_name r.name x.1.named in let no : ⊥ = cc in no))
      (λ free. alone (free_is P C a free))
    where
      other : (n : List ℕ) → is_array n ≡ false → bytes_eq a n ≡ false
      other n p = go (bytes_eq a n) refl
        where
          go : (b : Bool) → bytes_eq a n ≡ b → bytes_eq a n ≡ false
          go true i = let s = (bytes_eq-Decides a n).0 i in let q : is_array a ≡ false = ap is_array s ∙ p in absurd (let no : ⊥ = cc in no)
          go false i = i

      alone : classes_from P a ≡ from_class a conflict_classes → (c ≡ a) ⊎ (c ≡ object_class)
      alone i =
          let o1 = other (codes "org/deuce/transaction/TransactionException") refl in
          let o2 = other (codes "java/lang/RuntimeException") refl in
          let o3 = other (codes "java/lang/Exception") refl in
          let o4 = other (codes "java/lang/Throwable") refl in
          let o5 = other object_class refl in
          let s : from_class a conflict_classes ≡ a ∷ object_class ∷ [] = simp (o1, o2, o3, o4, o5) in
          ⊎_elim (λ (k : c ≡ a). inl k) (λ (k : Among c (object_class ∷ [])). ⊎_elim (λ (k : c ≡ object_class). inr k) (λ (k : Among c []). absurd (let no : ⊥ = cc in no)) (either c object_class [] k)) (either c a (object_class ∷ []) (subst (Among c) (i ∙ s) h))

  under_of : (t u : VType) → IsWithin P t u → IsUnder P t u
  under_of t u a v e = within_trans P C t u v a e

  class_under : (m n : List ℕ) → Above P C m n → IsUnder P (Ref m) (Ref n)
  class_under m n h = by (is_array m) refl
    where
      by : (b : Bool) → is_array m ≡ b → IsUnder P (Ref m) (Ref n)
      by false e = under_of (Ref m) (Ref n) (is_within_by P m n (classes e h))
      by true e = ⊎_elim
          (λ (k : n ≡ m). subst (λ (n : List ℕ). IsUnder P (Ref m) (Ref n)) (sym k) (λ v x. x))
          (λ (k : n ≡ object_class). under_of (Ref m) (Ref n) (is_within_by P m n (object e k)))
          (array_class m n e h)

  named_class : (n : List ℕ) → named_by (76 ∷ n) ≡ without_last n
  named_class n = refl

  named_array : (n : List ℕ) → named_by (91 ∷ n) ≡ 91 ∷ n
  named_array n = refl

  abbrev IsReferences : List ℕ → Type 0
  IsReferences n = (begins 76 n || begins 91 n) ≡ true

  -- by the front of two elements
  references_down : (c : ℕ) (m : List ℕ) (d : ℕ) (n : List ℕ) → Shape P c m d n → IsReferences (d ∷ n) → IsReferences (c ∷ m) × IsUnder P (Ref (named_by (c ∷ m))) (Ref (named_by (d ∷ n)))
  references_down c m d n (deeper x y h) e = subst (λ (c : ℕ). IsReferences (c ∷ m) × IsUnder P (Ref (named_by (c ∷ m))) (Ref (named_by (d ∷ n)))) (sym x) (subst (λ (d : ℕ). IsReferences (91 ∷ m) × IsUnder P (Ref (named_by (91 ∷ m))) (Ref (named_by (d ∷ n)))) (sym y)
      (refl, under_of (Ref (91 ∷ m)) (Ref (91 ∷ n)) (is_within_by P (91 ∷ m) (91 ∷ n) (arrays refl refl h))))
  references_down c m d n (under_object x y h) e = subst (λ (c : ℕ). IsReferences (c ∷ m) × IsUnder P (Ref (named_by (c ∷ m))) (Ref (named_by (d ∷ n)))) (sym x) (subst (λ (d : ℕ). IsReferences (91 ∷ m) × IsUnder P (Ref (named_by (91 ∷ m))) (Ref (named_by (d ∷ n)))) (sym y)
      (refl, under_of (Ref (91 ∷ m)) (Ref (without_last n)) (is_within_by P (91 ∷ m) (without_last n) (object refl (ap without_last h ∙ inner_name object_class)))))
  references_down c m d n (class x y h i) e = subst (λ (c : ℕ). IsReferences (c ∷ m) × IsUnder P (Ref (named_by (c ∷ m))) (Ref (named_by (d ∷ n)))) (sym x) (subst (λ (d : ℕ). IsReferences (76 ∷ m) × IsUnder P (Ref (named_by (76 ∷ m))) (Ref (named_by (d ∷ n)))) (sym y)
      (refl, class_under (without_last m) (without_last n) i))
  references_down c m d n (same x y h) e = subst (λ (l : List ℕ). IsReferences l × IsUnder P (Ref (named_by l)) (Ref (named_by (d ∷ n)))) (sym h) (e, λ v z. z)

  primitive_down : (x : ℕ) → x ≢ 91 → x ≢ 76 → (l : List ℕ) → is_element_within P l (x ∷ []) ≡ true → l ≡ x ∷ []
  primitive_down x p q [] h = cc
  primitive_down x p q (c ∷ l) h = by (shape P c l x [] h)
    where
      by : Shape P c l x [] → c ∷ l ≡ x ∷ []
      by (deeper a b h) = absurd (p b)
      by (under_object a b h) = absurd (q b)
      by (class a b h i) = absurd (q b)
      by (same a b h) = h

  array_is : (l : List ℕ) → is_array l ≡ true → l ≡ 91 ∷ drop 1 l
  array_is [] e = cc
  array_is (c ∷ l) e = let s : c ≡ 91 = grind (arith, nat_tests) in ap (λ (c : ℕ). c ∷ l) s

  pub elements_of : (l m : List ℕ) → is_array l ≡ true → is_array m ≡ true → IsWithin P (Ref l) (Ref m) → is_element_within P (drop 1 l) (drop 1 m) ≡ true
  elements_of l m a b h = by (within P l m h)
    where
      by : Within P l m → is_element_within P (drop 1 l) (drop 1 m) ≡ true
      by (arrays x y g) = g
      by (object x g) = absurd (let e : is_array m ≡ false = ap is_array g in let no : ⊥ = cc in no)
      by (classes x g) = absurd (let no : ⊥ = cc in no)

  named_alike : (x : ℕ) → x ≢ 91 → x ≢ 76 → (l m : List ℕ) → is_array l ≡ true → is_array m ≡ true → IsWithin P (Ref l) (Ref m) → bytes_eq m (91 ∷ x ∷ []) ≡ true → bytes_eq l (91 ∷ x ∷ []) ≡ true
  named_alike x p q l m a b h e =
      let s = (bytes_eq-Decides m (91 ∷ x ∷ [])).0 e in
      let d : drop 1 m ≡ x ∷ [] = ap (drop 1) s in
      let t = primitive_down x p q (drop 1 l) (subst (λ (m : List ℕ). is_element_within P (drop 1 l) m ≡ true) d (elements_of l m a b h)) in
      (bytes_eq-Decides l (91 ∷ x ∷ [])).1 (array_is l a ∙ ap (λ (l : List ℕ). 91 ∷ l) t)

  pub elements_down : (w : WordType) (l m : List ℕ) → is_array l ≡ true → is_array m ≡ true → IsWithin P (Ref l) (Ref m) → has_elements w m ≡ true → (has_elements w l ≡ true) × AreUnder P (element_types w (Ref l)) (element_types w (Ref m))
  elements_down word.Reference l m a b h e = by (drop 1 l) (drop 1 m) (elements_of l m a b h) e
    where
      by : (x y : List ℕ) → is_element_within P x y ≡ true → IsReferences y → IsReferences x × AreUnder P (Ref (named_by x) ∷ []) (Ref (named_by y) ∷ [])
      by [] y h e = cc
      by (c ∷ x) [] h e = cc
      by (c ∷ x) (d ∷ y) h e = let r = references_down c x d y (shape P c x d y h) e in (r.0, (r.1, tt))
  elements_down word.Byte l m a b h e = (by (bytes_eq m (codes "[B")) refl e, under_same P (Int ∷ []))
    where
      or_right : (x : Bool) → (x || true) ≡ true
      or_right true = refl
      or_right false = refl

      by : (x : Bool) → bytes_eq m (codes "[B") ≡ x → (x || bytes_eq m (codes "[Z")) ≡ true → (bytes_eq l (codes "[B") || bytes_eq l (codes "[Z")) ≡ true
      by true i e = let s = named_alike 66 (λ e. omega arith) (λ e. omega arith) l m a b h i in rw s refl
      by false i e = let s = named_alike 90 (λ e. omega arith) (λ e. omega arith) l m a b h e in rw s (or_right (bytes_eq l (codes "[B")))
  elements_down word.Long l m a b h e = (named_alike 74 (λ e. omega arith) (λ e. omega arith) l m a b h e, under_same P (Second ∷ Long ∷ []))
  elements_down word.Boolean l m a b h e = (named_alike 90 (λ e. omega arith) (λ e. omega arith) l m a b h e, under_same P (Int ∷ []))
  elements_down word.Char l m a b h e = (named_alike 67 (λ e. omega arith) (λ e. omega arith) l m a b h e, under_same P (Int ∷ []))
  elements_down word.Short l m a b h e = (named_alike 83 (λ e. omega arith) (λ e. omega arith) l m a b h e, under_same P (Int ∷ []))
  elements_down word.Int l m a b h e = (named_alike 73 (λ e. omega arith) (λ e. omega arith) l m a b h e, under_same P (Int ∷ []))
