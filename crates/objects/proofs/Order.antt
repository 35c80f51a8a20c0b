-- The order of classes and arrays, and where a class has the fields of those above it.
use Rattle.std.proofs.Common.{◌≡◌, ℕ, zero, suc, ◌≤◌, List, [], ◌∷◌, length, Option, Some, None, Bool, true, false, refl, sym, ap, subst, ◌∙◌, arith, ◌⊎◌, inl, inr, ⊎_elim}
use Rattle.std.specs.Prelude.{slice_get, find, bytes_eq, ◌||◌, ◌==◌, not, if◌then◌else◌}
use Rattle.std.specs.List.{list_any}
use Rattle.std.proofs.lemmas.Slice.Eq.{bytes_eq-Decides}
use Rattle.objects.specs.semantics.Program.{Declared, Holds, Words, Elements, Row, Program, row_at}
use Rattle.objects.specs.typing.TypeOrder.{object_class, conflict_classes, classes_from, from_class, above_in, is_class_name, is_array}
use Rattle.objects.specs.typing.Source.{IsUnder, IsClass, IsRowOf, AreTypes}

abbrev pub Among : List ℕ → List (List ℕ) → Type 0
Among n ns = list_any (bytes_eq n) ns ≡ true

pub either : (m x : List ℕ) (xs : List (List ℕ)) → Among m (x ∷ xs) → (m ≡ x) ⊎ Among m xs
either m x xs h = go (bytes_eq m x) refl h
  where
    go : (b : Bool) → bytes_eq m x ≡ b → (b || list_any (bytes_eq m) xs) ≡ true → (m ≡ x) ⊎ Among m xs
    go true e h = inl ((bytes_eq-Decides m x).0 e)
    go false e h = inr h

pub first : (n : List ℕ) (ns : List (List ℕ)) → Among n (n ∷ ns)
first n ns = go (bytes_eq n n) ((bytes_eq-Decides n n).1 refl)
  where
    go : (b : Bool) → b ≡ true → (b || list_any (bytes_eq n) ns) ≡ true
    go true e = refl
    go false e = cc

pub later : (n x : List ℕ) (ns : List (List ℕ)) → Among n ns → Among n (x ∷ ns)
later n x ns h = go (bytes_eq n x)
  where
    go : (b : Bool) → (b || list_any (bytes_eq n) ns) ≡ true
    go true = refl
    go false = h

none : (n : List ℕ) → Among n [] → ⊥
none n h = cc

-- what is found is an item that passes
pub find_at : (n : List ℕ) (rs : List Row) (r : Row) → find (λ (d : Row). bytes_eq d.name n) rs ≡ Some r → (i : ℕ) × (slice_get rs i ≡ Some r) × (r.name ≡ n)
find_at n [] r e = cc
find_at n (d ∷ rs) r e = by (find_at n rs r) (bytes_eq d.name n) refl e
  where
    by : (find (λ (d : Row). bytes_eq d.name n) rs ≡ Some r → (i : ℕ) × (slice_get rs i ≡ Some r) × (r.name ≡ n)) → (b : Bool) → bytes_eq d.name n ≡ b → (if b then Some d else find (λ (d : Row). bytes_eq d.name n) rs) ≡ Some r
        → (i : ℕ) × (slice_get (d ∷ rs) i ≡ Some r) × (r.name ≡ n)
    by rest true is e = let same : d ≡ r = cc in (0, e, ap (λ (r : Row). r.name) (sym same) ∙ (bytes_eq-Decides d.name n).0 is)
    by rest false is e = let x = rest e in (suc x.0, x.1, x.2)

-- a class's name is no array's
pub plain_name : (n : List ℕ) → is_class_name n ≡ true → is_array n ≡ false
plain_name [] e = refl
plain_name (c ∷ cs) e = by (c == 91) e
  where
    by : (b : Bool) → not b ≡ true → b ≡ false
    by true e = cc
    by false e = refl

module _ (P : Program) (C : AreTypes P) where
  abbrev pub Above : List ℕ → List ℕ → Type 0
  Above m n = Among n (classes_from P m)

  -- a name among them has those above it among them
  abbrev pub Closed : List (List ℕ) → Type 0
  Closed ns = (l m : List ℕ) → Among l ns → Above l m → Among m ns

  closed_with : (n : List ℕ) (ns : List (List ℕ)) → classes_from P n ≡ n ∷ ns → Closed ns → Closed (n ∷ ns)
  closed_with n ns is rest l m h g = ⊎_elim
      (λ (e : l ≡ n). subst (Among m) is (subst (λ (l : List ℕ). Above l m) e g))
      (λ (f : Among l ns). later m n ns (rest l m f g))
      (either l n ns h)

  -- the classes from one of the program on
  above_is : (r : Row) (ds : List Declared) → IsClass P r ds → classes_from P r.name ≡ r.lineage
  above_is r ds c = ap (λ (o : Option Row). above_in o r.name) c.found

  -- what holds of a class at the top, and of one under another where it holds of that, holds of each
  module _ (Q : Row → List Declared → Type 0) (top : (r : Row) (ds : List Declared) → IsClass P r ds → r.name ≡ object_class → r.lineage ≡ r.name ∷ [] → Q r ds)
      (under : (r : Row) (ds : List Declared) → IsClass P r ds → (u : IsUnder P r ds) → IsClass P u.upper u.upper_words → Q u.upper u.upper_words → Q r ds) where
    by_length : (n : ℕ) (r : Row) (ds : List Declared) → length r.lineage ≤ n → IsClass P r ds → Q r ds
    by_length zero r ds le c = absurd (⊎_elim
        (λ (e : (r.name ≡ object_class) × (r.lineage ≡ r.name ∷ [])). let s : length r.lineage ≡ 1 = ap length e.1 in omega (arith, s, le))
        (λ (u : IsUnder P r ds). let s : length r.lineage ≡ suc (length u.upper.lineage) = ap length u.lineage in omega (arith, s, le))
        c.placed)
    by_length (suc n) r ds le c = ⊎_elim (λ (e : (r.name ≡ object_class) × (r.lineage ≡ r.name ∷ [])). top r ds c e.0 e.1) (λ (u : IsUnder P r ds). at u (by_length n u.upper u.upper_words)) c.placed
      where
        at : (u : IsUnder P r ds) → (length u.upper.lineage ≤ n → IsClass P u.upper u.upper_words → Q u.upper u.upper_words) → Q r ds
        at u rest = ⊎_elim
            (λ (b : (u.upper.lineage ≡ []) × (u.upper.read ≡ [])). absurd (u.class b.0))
            (λ (d : IsClass P u.upper u.upper_words). under r ds c u d (rest (let s : length r.lineage ≡ suc (length u.upper.lineage) = ap length u.lineage in omega (arith, s, le)) d))
            (subst (IsRowOf P u.upper) u.holds (C.rows u.number u.upper u.is))

    pub by_class : (r : Row) (ds : List Declared) → IsClass P r ds → Q r ds
    by_class r ds c = by_length (length r.lineage) r ds (omega arith) c

  closed_class : (r : Row) (ds : List Declared) → IsClass P r ds → Closed r.lineage
  closed_class = by_class (λ r ds. Closed r.lineage)
      (λ r ds c o e. subst Closed (sym e) (closed_with r.name [] (above_is r ds c ∙ e) (λ l m h g. absurd (none l h))))
      (λ r ds c u d rest. subst Closed (sym u.lineage) (closed_with r.name u.upper.lineage (above_is r ds c ∙ u.lineage) rest))

  abbrev ArePlain : List (List ℕ) → Type 0
  ArePlain ns = (m : List ℕ) → Among m ns → is_array m ≡ false

  plain_with : (n : List ℕ) (ns : List (List ℕ)) → is_array n ≡ false → ArePlain ns → ArePlain (n ∷ ns)
  plain_with n ns is rest m h = ⊎_elim (λ (e : m ≡ n). ap is_array e ∙ is) (rest m) (either m n ns h)

  plain_class : (r : Row) (ds : List Declared) → IsClass P r ds → ArePlain r.lineage
  plain_class = by_class (λ r ds. ArePlain r.lineage)
      (λ r ds c o e. subst ArePlain (sym e) (plain_with r.name [] (plain_name r.name c.named) (λ m h. absurd (none m h))))
      (λ r ds c u d rest. subst ArePlain (sym u.lineage) (plain_with r.name u.upper.lineage (plain_name r.name c.named) rest))

  -- a type with a lineage is a class
  pub class_row : (t : ℕ) (r : Row) → row_at P t ≡ Some r → (l : List ℕ) → Among l r.lineage → (ds : List Declared) × IsClass P r ds × (r.holds ≡ Words ds)
  class_row t r is l h = by r.holds refl (C.rows t r is)
    where
      by : (x : Holds) → r.holds ≡ x → IsRowOf P r x → (ds : List Declared) × IsClass P r ds × (r.holds ≡ Words ds)
      by (Words ds) e row = ⊎_elim
          (λ (b : (r.lineage ≡ []) × (r.read ≡ [])). absurd (none l (subst (Among l) b.0 h)))
          (λ (c : IsClass P r ds). (ds, c, e))
          row
      by (Elements d name) e row = absurd (none l (subst (Among l) row.apart h))

  pub row_found : (n : List ℕ) (r : Row) → find (λ (d : Row). bytes_eq d.name n) P.types ≡ Some r → (t : ℕ) × (row_at P t ≡ Some r) × (r.name ≡ n)
  row_found n r e = let x = find_at n P.types r e in (suc x.0, x.1, x.2)

  -- each list that ends the conflict's is closed, and has no array
  abbrev AreEnds : List (List ℕ) → Type 0
  AreEnds [] = Unit {0}
  AreEnds (n ∷ ns) = Closed (n ∷ ns) × ArePlain (n ∷ ns) × AreEnds ns

  ends_with : (n : List ℕ) (ns : List (List ℕ)) → classes_from P n ≡ n ∷ ns → is_array n ≡ false → Closed ns → ArePlain ns → AreEnds ns → AreEnds (n ∷ ns)
  ends_with n ns is plain closed all rest = (closed_with n ns is closed, plain_with n ns plain all, rest)

  conflict_ends : AreEnds conflict_classes
  conflict_ends =
      let x = C.conflict in
      let e5 = ends_with _ [] x.1.1.1.1.0 refl (λ l m h g. absurd (none l h)) (λ m h. absurd (none m h)) tt in
      let e4 = ends_with _ _ x.1.1.1.0 refl e5.0 e5.1 e5 in
      let e3 = ends_with _ _ x.1.1.0 refl e4.0 e4.1 e4 in
      let e2 = ends_with _ _ x.1.0 refl e3.0 e3.1 e3 in
      ends_with _ _ x.0 refl e2.0 e2.1 e2

  -- nothing is above Object
  pub object_top : (n : List ℕ) → Above object_class n → n ≡ object_class
  object_top n h = ⊎_elim (λ (e : n ≡ object_class). e) (λ (f : Among n []). absurd (none n f)) (either n object_class [] (subst (Among n) C.conflict.1.1.1.1.0 h))

  module _ (a : List ℕ) (free : find (λ (d : Row). bytes_eq d.name a) P.types ≡ None) where
    pub free_is : classes_from P a ≡ from_class a conflict_classes
    free_is = ap (λ (o : Option Row). above_in o a) free

    by_ends : (Q : List (List ℕ) → Type 0) → Q (a ∷ object_class ∷ []) → ((n : List ℕ) (ns : List (List ℕ)) → n ≡ a → Closed (n ∷ ns) → ArePlain (n ∷ ns) → Q (n ∷ ns)) → (ns : List (List ℕ)) → AreEnds ns → Q (from_class a ns)
    by_ends Q alone last [] ends = alone
    by_ends Q alone last (n ∷ ns) ends = by (bytes_eq a n) refl (by_ends Q alone last ns ends.2)
      where
        by : (b : Bool) → bytes_eq a n ≡ b → Q (from_class a ns) → Q (if b then n ∷ ns else from_class a ns)
        by true is rest = last n ns (sym ((bytes_eq-Decides a n).0 is)) ends.0 ends.1
        by false is rest = rest

    free_closed : (b c : List ℕ) → Above a b → Above b c → Above a c
    free_closed b c h g = subst (Among c) (sym free_is) (by_ends (λ ns. from_class a conflict_classes ≡ ns → Among b ns → Among c ns) alone (λ n ns is closed plain e f. closed b c f g) conflict_classes conflict_ends refl (subst (Among b) free_is h))
      where
        alone : from_class a conflict_classes ≡ a ∷ object_class ∷ [] → Among b (a ∷ object_class ∷ []) → Among c (a ∷ object_class ∷ [])
        alone e f = ⊎_elim
            (λ (s : b ≡ a). subst (Among c) (free_is ∙ e) (subst (λ (b : List ℕ). Above b c) s g))
            (λ (r : Among b (object_class ∷ [])). ⊎_elim
            (λ (s : b ≡ object_class). later c a (object_class ∷ []) (subst (λ (n : List ℕ). Among n (object_class ∷ [])) (sym (object_top c (subst (λ (b : List ℕ). Above b c) s g))) (first object_class [])))
            (λ (f : Among b []). absurd (none b f))
            (either b object_class [] r))
            (either b a (object_class ∷ []) f)

    free_plain : (m : List ℕ) → Above a m → (m ≡ a) ⊎ (is_array m ≡ false)
    free_plain m h = by_ends (λ ns. Among m ns → (m ≡ a) ⊎ (is_array m ≡ false)) alone (λ n ns is closed plain f. inr (plain m f)) conflict_classes conflict_ends (subst (Among m) free_is h)
      where
        alone : Among m (a ∷ object_class ∷ []) → (m ≡ a) ⊎ (is_array m ≡ false)
        alone f = ⊎_elim (λ (e : m ≡ a). inl e) (λ (r : Among m (object_class ∷ [])). inr (plain_with object_class [] refl (λ m h. absurd (none m h)) m r)) (either m a (object_class ∷ []) f)

    pub free_second : (c : List ℕ) → slice_get (classes_from P a) 1 ≡ Some c → (c ≡ object_class) ⊎ (is_array a ≡ false)
    free_second c h = by_ends (λ ns. slice_get ns 1 ≡ Some c → (c ≡ object_class) ⊎ (is_array a ≡ false)) (λ e. let s : object_class ≡ c = cc in inl (sym s)) (λ n ns is closed plain e. inr (ap is_array (sym is) ∙ plain n (first n ns))) conflict_classes conflict_ends (ap (λ (ns : List (List ℕ)). slice_get ns 1) (sym free_is) ∙ h)

  pub by_found : (Q : Type 0) (a : List ℕ) → ((t : ℕ) (r : Row) → row_at P t ≡ Some r → r.name ≡ a → classes_from P a ≡ r.lineage → Q) → (find (λ (d : Row). bytes_eq d.name a) P.types ≡ None → Q) → Q
  by_found Q a known free = by (find (λ (d : Row). bytes_eq d.name a) P.types) refl
    where
      by : (o : Option Row) → find (λ (d : Row). bytes_eq d.name a) P.types ≡ o → Q
      by None e = free e
      by (Some r) e = let x = row_found a r e in known x.0 r x.1 x.2 (ap (λ (o : Option Row). above_in o a) e)

  pub above_order : (a b c : List ℕ) → Above a b → Above b c → Above a c
  above_order a b c h g = by_found (Above a c) a
      (λ t r is name above.
      let f = subst (Among b) above h in
      let x = class_row t r is b f in
      subst (Among c) (sym above) (closed_class r x.0 x.1 b c f g))
      (λ free. free_closed a free b c h g)

  -- no array is above a class
  pub array_above : (a m : List ℕ) → Above a m → is_array m ≡ true → is_array a ≡ true
  array_above a m h e = by_found (is_array a ≡ true) a
      (λ t r is name above.
      let f = subst (Among m) above h in
      let x = class_row t r is m f in
      absurd (let p = plain_class r x.0 x.1 m f in let fall : ⊥ = cc in fall))
      (λ free. ⊎_elim (λ (s : m ≡ a). ap is_array (sym s) ∙ e) (λ (p : is_array m ≡ false). absurd (let fall : ⊥ = cc in fall)) (free_plain a free m h))
