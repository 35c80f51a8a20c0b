-- How deep the brackets of a name go, also of one inside another: no deeper in what is above it.
use Rattle.std.proofs.Common.{◌≡◌, ℕ, suc, ◌+◌, ◌*◌, ◌≤◌, List, [], ◌∷◌, ◌++◌, length, drop, Option, Some, None, Bool, true, false, refl, sym, ap, subst, ◌∙◌, arith, ⊎_elim}
use Rattle.std.proofs.lemmas.Bool.Decides.{nat_tests}
use Rattle.std.proofs.lemmas.Slice.Eq.{bytes_eq-Decides}
use Rattle.std.proofs.lemmas.List.Sums.{sum_by-cons}
use Rattle.std.specs.Prelude.{bytes_eq, find, codes, sum_by, ◌==◌, if◌then◌else◌}
use Rattle.std.specs.List.{AllByRecursion}
use Rattle.jmodel.specs.declared.typing.VType.TheVariants.{Ref}
use Rattle.objects.specs.semantics.Program.{Row, Program}
use Rattle.objects.specs.typing.TypeOrder.{object_class, conflict_classes, from_class, above_in, classes_from, is_array, without_last, element_class, is_element_within, IsWithin}
use Rattle.objects.specs.typing.Source.{AreTypes}
use Rattle.objects.proofs.Order.{Among, either, Above, array_above, class_row, by_found, free_is, plain_name}
use Rattle.objects.proofs.Elements.{never, inner_name, Shape, deeper, under_object, class, same, shape, Within, arrays, object, classes, within}
use Rattle.verifier.proofs.Heights.{element_height, name_height}

-- no name is among none
none : (n : List ℕ) → Among n [] → ⊥
none n h = cc

-- how many brackets a name has
abbrev pub brackets : List ℕ → ℕ
brackets [] = 0
brackets (c ∷ m) = if c == 91 then suc (brackets m) else brackets m

-- A class inside an element may itself have an array's name.
abbrev pub element_depth : List ℕ → ℕ
element_depth [] = 0
element_depth (c ∷ m) = if c == 91 then suc (element_depth m) else (if c == 76 then (if is_array (without_last m) then brackets m else 0) else 0)

abbrev pub name_depth : List ℕ → ℕ
name_depth n = if is_array n then suc (element_depth (drop 1 n)) else 0

-- no deeper than it has brackets
element_brackets : (m : List ℕ) → element_depth m ≤ brackets m
element_brackets [] = omega arith
element_brackets (c ∷ m) = by (c == 91) (c == 76) (is_array (without_last m)) (element_brackets m)
  where
    by : (a b d : Bool) → element_depth m ≤ brackets m → (if a then suc (element_depth m) else (if b then (if d then brackets m else 0) else 0)) ≤ (if a then suc (brackets m) else brackets m)
    by true b d h = omega arith
    by false true true h = omega arith
    by false true false h = omega arith
    by false false d h = omega arith

-- so for names
name_brackets : (n : List ℕ) → name_depth n ≤ brackets n
name_brackets [] = omega arith
name_brackets (c ∷ m) = by (c == 91) (element_brackets m)
  where
    by : (a : Bool) → element_depth m ≤ brackets m → (if a then suc (element_depth m) else 0) ≤ (if a then suc (brackets m) else brackets m)
    by true h = omega arith
    by false h = omega arith

-- without its last byte a name has no more
front_brackets : (m : List ℕ) → brackets (without_last m) ≤ brackets m
front_brackets [] = omega arith
front_brackets (c ∷ []) = omega arith
front_brackets (c ∷ d ∷ m) = by (c == 91) (front_brackets (d ∷ m))
  where
    by : (a : Bool) → brackets (without_last (d ∷ m)) ≤ brackets (d ∷ m) → (if a then suc (brackets (without_last (d ∷ m))) else brackets (without_last (d ∷ m))) ≤ (if a then suc (brackets (d ∷ m)) else brackets (d ∷ m))
    by true h = omega arith
    by false h = omega arith

-- a semicolon adds none
ended_brackets : (l : List ℕ) → brackets (l ++ codes ";") ≡ brackets l
ended_brackets [] = refl
ended_brackets (c ∷ l) = ap (λ (x : ℕ). if c == 91 then suc x else x) (ended_brackets l)

-- of an array
depth_array : (c : ℕ) (m : List ℕ) → c ≡ 91 → element_depth (c ∷ m) ≡ suc (element_depth m)
depth_array c m e = subst (λ (c : ℕ). element_depth (c ∷ m) ≡ suc (element_depth m)) (sym e) refl

-- of a class
depth_class : (c : ℕ) (m : List ℕ) → c ≡ 76 → element_depth (c ∷ m) ≡ (if is_array (without_last m) then brackets m else 0)
depth_class c m e = subst (λ (c : ℕ). element_depth (c ∷ m) ≡ (if is_array (without_last m) then brackets m else 0)) (sym e) refl

-- the elements of an array are less deep
pub inner_depth : (n : List ℕ) → is_array n ≡ true → name_depth (element_class n) ≤ name_depth n
inner_depth [] a = absurd (let no : ⊥ = cc in no)
inner_depth (c ∷ []) a = omega arith
inner_depth (c ∷ d ∷ m) a = let e : name_depth (c ∷ d ∷ m) ≡ suc (element_depth (d ∷ m)) = rw a refl in rw e (by (d == 76) refl)
  where
    class_in : (b : Bool) → is_array (without_last m) ≡ b → name_depth (without_last m) ≤ (if b then brackets m else 0)
    class_in true i = let x = name_brackets (without_last m) in let y = front_brackets m in omega arith
    class_in false i = rw i (omega arith)

    other : (a b d : Bool) → (if a then suc (element_depth m) else 0) ≤ suc (if a then suc (element_depth m) else (if b then (if d then brackets m else 0) else 0))
    other true b d = omega arith
    other false b d = omega arith

    by : (b : Bool) → (d == 76) ≡ b → name_depth (if b then without_last m else d ∷ m) ≤ suc (element_depth (d ∷ m))
    by true i = let e : d ≡ 76 = grind (arith, nat_tests) in let f = depth_class d m e in let g = class_in (is_array (without_last m)) refl in omega arith
    by false i = other (d == 91) (d == 76) (is_array (without_last m))

module _ (P : Program) (C : AreTypes P) where
  -- an array is above itself alone
  from_array : (a : List ℕ) → is_array a ≡ true → (ns : List (List ℕ)) → AllByRecursion (λ (n : List ℕ). is_array n ≡ false) ns → from_class a ns ≡ a ∷ object_class ∷ []
  from_array a e [] h = refl
  from_array a e (n ∷ ns) h = by (from_array a e ns h.1) (bytes_eq a n) refl
    where
      by : from_class a ns ≡ a ∷ object_class ∷ [] → (b : Bool) → bytes_eq a n ≡ b → (if b then n ∷ ns else from_class a ns) ≡ a ∷ object_class ∷ []
      by rest true i = absurd (never (is_array a) e (ap is_array ((bytes_eq-Decides a n).0 i) ∙ h.0))
      by rest false i = rest

  -- an array that is above a name is that name
  array_same : (a m : List ℕ) → Above P C a m → is_array m ≡ true → m ≡ a
  array_same a m h e = by_found P C (m ≡ a) a
      (λ t r row name above.
      let x = class_row P C t r row m (subst (Among m) above h) in
      let c = x.1 in
      absurd (never (is_array r.name) (ap is_array name ∙ array_above P C a m h e) (plain_name r.name c.named)))
      (λ free.
      let l = free_is P C a free ∙ from_array a (array_above P C a m h e) conflict_classes (refl, (refl, (refl, (refl, (refl, tt))))) in
      ⊎_elim
      (λ (s : m ≡ a). s)
      (λ (f : Among m (object_class ∷ [])). ⊎_elim
      (λ (s : m ≡ object_class). absurd (never (is_array m) e (ap is_array s)))
      (λ (f : Among m []). absurd (none m f))
      (either m object_class [] f))
      (either m a (object_class ∷ []) (subst (Among m) l h)))

  -- a class above another is no deeper
  class_deep : (m n : List ℕ) → n ≡ without_last n ++ codes ";" → Above P C (without_last m) (without_last n) → (b : Bool) → is_array (without_last n) ≡ b → (if b then brackets n else 0) ≤ (if is_array (without_last m) then brackets m else 0)
  class_deep m n g h false i = omega arith
  class_deep m n g h true i =
      let s = array_same (without_last m) (without_last n) h i in
      let a : is_array (without_last m) ≡ true = ap is_array (sym s) ∙ i in
      let x = ap brackets g ∙ ended_brackets (without_last n) ∙ ap brackets s in
      let y = front_brackets m in
      rw a (omega arith)

  -- what is above an element is no deeper
  element_down : (m n : List ℕ) → is_element_within P m n ≡ true → element_depth n ≤ element_depth m
  element_down [] n h = absurd (let no : ⊥ = cc in no)
  element_down (c ∷ m) [] h = absurd (let no : ⊥ = cc in no)
  element_down (c ∷ m) (d ∷ n) h = by (element_down m n) (shape P c m d n h)
    where
      by : (is_element_within P m n ≡ true → element_depth n ≤ element_depth m) → Shape P c m d n → element_depth (d ∷ n) ≤ element_depth (c ∷ m)
      by rest (deeper x y g) = let a = depth_array c m x in let b = depth_array d n y in let r = rest g in omega arith
      by rest (under_object x y g) =
          let b = depth_class d n y in
          let o : is_array (without_last n) ≡ false = ap is_array (ap without_last g ∙ inner_name object_class) in
          let z : (if is_array (without_last n) then brackets n else 0) ≡ 0 = rw o refl in
          omega arith
      by rest (class x y g i) = let a = depth_class c m x in let b = depth_class d n y in let r = class_deep m n g i (is_array (without_last n)) refl in omega arith
      by rest (same x y g) = let e = ap element_depth g in omega arith

  -- what is above a name is no deeper
  pub name_down : (m n : List ℕ) → IsWithin P (Ref m) (Ref n) → name_depth n ≤ name_depth m
  name_down m n h = by (within P m n h)
    where
      flat : (l : List ℕ) → is_array l ≡ false → name_depth l ≡ 0
      flat l e = rw e refl

      deep : (l : List ℕ) → is_array l ≡ true → name_depth l ≡ suc (element_depth (drop 1 l))
      deep l e = rw e refl

      plain : Above P C m n → is_array m ≡ false → (b : Bool) → is_array n ≡ b → name_depth n ≤ name_depth m
      plain c e true i = absurd (never (is_array m) (array_above P C m n c i) e)
      plain c e false i = let x = flat n i in omega arith

      by : Within P m n → name_depth n ≤ name_depth m
      by (arrays x y g) = let a = deep m x in let b = deep n y in let r = element_down (drop 1 m) (drop 1 n) g in omega arith
      by (object x g) = let b = flat n (ap is_array g) in omega arith
      by (classes x g) = plain g x (is_array n) refl

-- no class has more classes above it than the program's classes together, or the conflict
abbrev pub lineage_length : Row → ℕ
lineage_length r = length r.lineage

abbrev pub most : Program → ℕ
most P = sum_by lineage_length P.types + 7

-- a class that is found is one of them
found_most : (n : List ℕ) (rs : List Row) (r : Row) → find (λ (d : Row). bytes_eq d.name n) rs ≡ Some r → length r.lineage ≤ sum_by lineage_length rs
found_most n [] r e = absurd (let no : ⊥ = cc in no)
found_most n (d ∷ rs) r e = by (found_most n rs r) (bytes_eq d.name n) e (sum_by-cons lineage_length d rs)
  where
    by : (find (λ (d : Row). bytes_eq d.name n) rs ≡ Some r → length r.lineage ≤ sum_by lineage_length rs) → (b : Bool) → (if b then Some d else find (λ (d : Row). bytes_eq d.name n) rs) ≡ Some r
        → sum_by lineage_length (d ∷ rs) ≡ length d.lineage + sum_by lineage_length rs → length r.lineage ≤ sum_by lineage_length (d ∷ rs)
    by rest true e s = let t : d ≡ r = cc (e) in let l = ap lineage_length t in omega arith
    by rest false e s = let x = rest e in omega arith

-- no list that ends the conflict's is longer
from_most : (n : List ℕ) (ns : List (List ℕ)) → length (from_class n ns) ≤ length ns + 2
from_most n [] = omega arith
from_most n (c ∷ cs) = by (bytes_eq n c) (from_most n cs)
  where
    by : (b : Bool) → length (from_class n cs) ≤ length cs + 2 → length (if b then c ∷ cs else from_class n cs) ≤ suc (length cs) + 2
    by true h = omega arith
    by false h = omega arith

-- so for each class
class_most : (P : Program) (n : List ℕ) → length (classes_from P n) ≤ most P
class_most P n = by (find (λ (d : Row). bytes_eq d.name n) P.types) refl
  where
    by : (o : Option Row) → find (λ (d : Row). bytes_eq d.name n) P.types ≡ o → length (above_in o n) ≤ most P
    by (Some r) e = let x = found_most n P.types r e in omega arith
    by None e = let x = from_most n conflict_classes in omega arith

-- how high a name stands, by its depth
element_most : (P : Program) (m : List ℕ) → element_height P m ≤ 2 * element_depth m + most P
element_most P [] = omega arith
element_most P (c ∷ m) = by (c == 91) (c == 76) (is_array (without_last m)) (element_most P m) (class_most P (without_last m))
  where
    by : (a b d : Bool) → element_height P m ≤ 2 * element_depth m + most P → length (classes_from P (without_last m)) ≤ most P
        → (if a then element_height P m + 2 else (if b then length (classes_from P (without_last m)) else 0)) ≤ 2 * (if a then suc (element_depth m) else (if b then (if d then brackets m else 0) else 0)) + most P
    by true b d h g = omega arith
    by false true true h g = omega arith
    by false true false h g = omega arith
    by false false d h g = omega arith

-- so for names
pub name_most : (P : Program) (n : List ℕ) → name_height P n ≤ 2 * name_depth n + most P
name_most P n = by (is_array n) (element_most P (drop 1 n)) (class_most P n)
  where
    by : (b : Bool) → element_height P (drop 1 n) ≤ 2 * element_depth (drop 1 n) + most P → length (classes_from P n) ≤ most P
        → (if b then element_height P (drop 1 n) + 2 else length (classes_from P n)) ≤ 2 * (if b then suc (element_depth (drop 1 n)) else 0) + most P
    by true h g = omega arith
    by false h g = omega arith
