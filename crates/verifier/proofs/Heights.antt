-- How high a class or an array stands: less high than what is below it.
use Rattle.std.proofs.Common.{◌≡◌, ℕ, ◌+◌, ◌<◌, ◌≤◌, List, [], ◌∷◌, length, drop, Bool, true, false, refl, sym, ap, subst, ◌∙◌, arith}
use Rattle.std.specs.Prelude.{◌==◌, if◌then◌else◌}
use Rattle.jmodel.specs.declared.typing.VType.TheVariants.{Ref}
use Rattle.objects.specs.semantics.Program.{Program}
use Rattle.objects.specs.typing.TypeOrder.{object_class, classes_from, is_array, without_last, is_element_within, IsWithin}
use Rattle.objects.specs.typing.Source.{AreTypes}
use Rattle.objects.proofs.Order.{Above, array_above}
use Rattle.objects.proofs.Elements.{inner_name, Shape, deeper, under_object, class, same, shape, shaped, Within, arrays, object, classes, within, is_within_by}
use Rattle.verifier.proofs.Upward.{object_is, class_up, class_less}

-- of an element, by its descriptor
abbrev pub element_height : Program → List ℕ → ℕ
element_height P [] = 0
element_height P (c ∷ m) = if c == 91 then element_height P m + 2 else (if c == 76 then length (classes_from P (without_last m)) else 0)

abbrev pub name_height : Program → List ℕ → ℕ
name_height P n = if is_array n then element_height P (drop 1 n) + 2 else length (classes_from P n)

module _ (P : Program) where
  -- of an array
  height_array : (c : ℕ) (m : List ℕ) → c ≡ 91 → element_height P (c ∷ m) ≡ element_height P m + 2
  height_array c m e = subst (λ (c : ℕ). element_height P (c ∷ m) ≡ element_height P m + 2) (sym e) refl

  -- of a class
  height_class : (c : ℕ) (m : List ℕ) → c ≡ 76 → element_height P (c ∷ m) ≡ length (classes_from P (without_last m))
  height_class c m e = subst (λ (c : ℕ). element_height P (c ∷ m) ≡ length (classes_from P (without_last m))) (sym e) refl

  -- of the name of an array
  of_array : (n : List ℕ) → is_array n ≡ true → name_height P n ≡ element_height P (drop 1 n) + 2
  of_array n e = rw e refl

  -- of that of a class
  of_class : (n : List ℕ) → is_array n ≡ false → name_height P n ≡ length (classes_from P n)
  of_class n e = rw e refl

  abbrev IsElement : List ℕ → List ℕ → Type 0
  IsElement m n = is_element_within P m n ≡ true

  -- the elements of an array within itself are so
  inner_self : (c : ℕ) (m : List ℕ) → c ≡ 91 → IsElement (c ∷ m) (c ∷ m) → IsElement m m
  inner_self c m e = subst (λ (c : ℕ). IsElement (c ∷ m) (c ∷ m) → IsElement m m) (sym e) (λ h. h)

module _ (P : Program) (C : AreTypes P) where
  -- Object alone is above itself
  object_height : (n : List ℕ) → n ≡ object_class → length (classes_from P n) ≡ 1
  object_height n e = ap (λ (n : List ℕ). length (classes_from P n)) e ∙ ap length (object_is P C)

  -- what is below stands as high
  element_up : (m n : List ℕ) → IsElement P m n → element_height P n ≤ element_height P m
  element_up [] n h = absurd (let no : ⊥ = cc in no)
  element_up (c ∷ m) [] h = absurd (let no : ⊥ = cc in no)
  element_up (c ∷ m) (d ∷ n) h = by (element_up m n) (shape P c m d n h)
    where
      by : (IsElement P m n → element_height P n ≤ element_height P m) → Shape P c m d n → element_height P (d ∷ n) ≤ element_height P (c ∷ m)
      by rest (deeper x y h) = let a = height_array P c m x in let b = height_array P d n y in let r = rest h in omega arith
      by rest (under_object x y h) = let a = height_array P c m x in let b = height_class P d n y in let o = object_height (without_last n) (ap without_last h ∙ inner_name object_class) in omega arith
      by rest (class x y g i) = let a = height_class P c m x in let b = height_class P d n y in let r = class_up P C (without_last m) (without_last n) i in omega arith
      by rest (same x y h) = let e = ap (element_height P) h in omega arith

  -- so for names
  pub name_up : (m n : List ℕ) → IsWithin P (Ref m) (Ref n) → name_height P n ≤ name_height P m
  name_up m n h = by (within P m n h)
    where
      plain : (c : Above P C m n) → is_array m ≡ false → (b : Bool) → is_array n ≡ b → name_height P n ≤ name_height P m
      plain c e true i = absurd (let f = array_above P C m n c i in let no : ⊥ = cc in no)
      plain c e false i = let a = of_class P m e in let b = of_class P n i in let r = class_up P C m n c in omega arith

      by : Within P m n → name_height P n ≤ name_height P m
      by (arrays x y g) = let a = of_array P m x in let b = of_array P n y in let r = element_up (drop 1 m) (drop 1 n) g in omega arith
      by (object x g) = let a = of_array P m x in let b = of_class P n (ap is_array g) in let o = object_height n g in omega arith
      by (classes x g) = plain g x (is_array n) refl

  -- and higher, where what is above it isn't below it too
  element_less : (m n : List ℕ) → IsElement P m n → IsElement P m m → (IsElement P n m → ⊥) → element_height P n < element_height P m
  element_less [] n h s fails = absurd (let no : ⊥ = cc in no)
  element_less (c ∷ m) [] h s fails = absurd (let no : ⊥ = cc in no)
  element_less (c ∷ m) (d ∷ n) h s fails = by (element_less m n) (shape P c m d n h) (shape P c m c m s)
    where
      by : (IsElement P m n → IsElement P m m → (IsElement P n m → ⊥) → element_height P n < element_height P m) → Shape P c m d n → Shape P c m c m → element_height P (d ∷ n) < element_height P (c ∷ m)
      by rest (deeper x y h) t =
          let a = height_array P c m x in let b = height_array P d n y in
          let r = rest h (inner_self P c m x s) (λ g. fails (shaped P d n c m (deeper y x g))) in omega arith
      by rest (under_object x y h) t = let a = height_array P c m x in let b = height_class P d n y in let o = object_height (without_last n) (ap without_last h ∙ inner_name object_class) in omega arith
      by rest (class x y g i) (deeper z v w) = absurd (omega (arith, x, z))
      by rest (class x y g i) (under_object z v w) = absurd (omega (arith, x, z))
      by rest (class x y g i) (same z v w) = absurd (v x)
      by rest (class x y g i) (class z v w j) =
          let a = height_class P c m x in let b = height_class P d n y in
          let r = class_less P C (without_last m) (without_last n) i j (λ (k : Above P C (without_last n) (without_last m)). fails (shaped P d n c m (class y x w k))) in omega arith
      by rest (same x y h) t = absurd (fails (subst (λ (l : List ℕ). IsElement P l (c ∷ m)) h s))

  -- so for names
  pub name_less : (m n : List ℕ) → IsWithin P (Ref m) (Ref n) → IsWithin P (Ref m) (Ref m) → (IsWithin P (Ref n) (Ref m) → ⊥) → name_height P n < name_height P m
  name_less m n h s fails = by (within P m n h) (within P m m s)
    where
      plain : (c : Above P C m n) → Above P C m m → is_array m ≡ false → (b : Bool) → is_array n ≡ b → name_height P n < name_height P m
      plain c t e true i = absurd (let f = array_above P C m n c i in let fall : ⊥ = cc in fall)
      plain c t e false i = let a = of_class P m e in let b = of_class P n i in let r = class_less P C m n c t (λ (k : Above P C n m). fails (is_within_by P n m (classes i k))) in omega arith

      by : Within P m n → Within P m m → name_height P n < name_height P m
      by (arrays x y g) (arrays z v w) = let a = of_array P m x in let b = of_array P n y in let r = element_less (drop 1 m) (drop 1 n) g w (λ k. fails (is_within_by P n m (arrays y x k))) in omega arith
      by (arrays x y g) (object z w) = absurd (let e : is_array m ≡ false = ap is_array w in let fall : ⊥ = cc in fall)
      by (arrays x y g) (classes z w) = absurd (let fall : ⊥ = cc in fall)
      by (object x g) t = let a = of_array P m x in let b = of_class P n (ap is_array g) in let o = object_height n g in omega arith
      by (classes x g) (arrays z v w) = absurd (let fall : ⊥ = cc in fall)
      by (classes x g) (object z w) = absurd (let fall : ⊥ = cc in fall)
      by (classes x g) (classes z w) = plain g w x (is_array n) refl
