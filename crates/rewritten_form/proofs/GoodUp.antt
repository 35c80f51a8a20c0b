-- What is wider than a good name is good, where the classes above a lawful one are lawful.
use Rattle.std.proofs.Common.{◌≡◌, ℕ, suc, ◌≤◌, Bool, true, false, ◌&&◌, List, [], ◌∷◌, drop, refl, sym, ap, ◌∙◌, subst, arith}
use Rattle.jmodel.specs.declared.typing.VType.TheVariants.{Ref}
use Rattle.objects.specs.semantics.Program.{Program}
use Rattle.objects.specs.typing.TypeOrder.{IsWithin, is_array, is_element_within, is_ended, without_last}
use Rattle.objects.specs.typing.Source.{AreTypes}
use Rattle.objects.proofs.Order.{Above, array_above}
use Rattle.objects.proofs.Elements.{never, Shape, deeper, under_object, class, same, shape, Within, arrays, object, classes, within}
use Rattle.member_code.proofs.Added.{two_true}
use Rattle.rewritten_form.proofs.GoodNames.{IsLawful, is_lawful, lawful_by, core_good, depth, is_good, IsGoodArray, plain_good, good_array, array_good, class_core}

module _ (P : Program) (C : AreTypes P) (lawful : (m n : List ℕ) → Above P C m n → IsLawful m → IsLawful n) where
  record IsUp (x y : List ℕ) : Type 0 where
    core : core_good y ≡ true
    few : depth y ≤ depth x

  -- of descriptors of elements
  core_up : (x y : List ℕ) → is_element_within P x y ≡ true → core_good x ≡ true → IsUp x y
  core_up [] y h e = cc
  core_up (c ∷ x) [] h e = cc
  core_up (c ∷ x) (d ∷ y) h e = by (core_up x y) (shape P c x d y h)
    where
      good_as : (z : ℕ) → c ≡ z → core_good (z ∷ x) ≡ true
      good_as z s = subst (λ (c : ℕ). core_good (c ∷ x) ≡ true) s e

      none : (z : ℕ) → z ≡ 76 → depth (z ∷ y) ≡ 0
      none z s = ap (λ (z : ℕ). depth (z ∷ y)) s

      by : (is_element_within P x y ≡ true → core_good x ≡ true → IsUp x y) → Shape P c x d y → IsUp (c ∷ x) (d ∷ y)
      by rest (deeper a b g) =
          let r = rest g (good_as 91 a) in
          let few = r.few in
          let left : depth (c ∷ x) ≡ suc (depth x) = ap (λ (c : ℕ). depth (c ∷ x)) a in
          let right : depth (d ∷ y) ≡ suc (depth y) = ap (λ (d : ℕ). depth (d ∷ y)) b in
          record { core = subst (λ (d : ℕ). core_good (d ∷ y) ≡ true) (sym b) r.core; few = omega (arith, left, right, few) }
      by rest (under_object a b g) =
          record { core = subst (λ (d : ℕ). core_good (d ∷ y) ≡ true) (sym b) (subst (λ (y : List ℕ). core_good (76 ∷ y) ≡ true) (sym g) refl); few = (let z = none d b in omega (arith, z)) }
      by rest (class a b g i) =
          let t : (is_ended x && is_lawful (without_last x)) ≡ true = good_as 76 a in
          let up = lawful (without_last x) (without_last y) i (lawful_by (without_last x) (two_true (is_ended x) (is_lawful (without_last x)) t).1) in
          record { core = subst (λ (d : ℕ). core_good (d ∷ y) ≡ true) (sym b) (ap (λ (y : List ℕ). core_good (76 ∷ y)) g ∙ class_core (without_last y) up); few = (let z = none d b in omega (arith, z)) }
      by rest (same a b g) =
          record { core = subst (λ (l : List ℕ). core_good l ≡ true) g e; few = (let z = ap depth g in omega (arith, z)) }

  array_up : (m n : List ℕ) → is_array m ≡ true → is_array n ≡ true → is_element_within P (drop 1 m) (drop 1 n) ≡ true → IsGoodArray m → IsGoodArray n
  array_up [] n i j h g = cc
  array_up (c ∷ m) [] i j h g = cc
  array_up (c ∷ m) (d ∷ n) i j h g =
      let core : core_good m ≡ true = (let k = g.core in (rw i at k)) in
      let up = core_up m n h core in
      let few = g.few in
      let less = up.few in
      let left : depth (c ∷ m) ≡ suc (depth m) = rw i refl in
      let right : depth (d ∷ n) ≡ suc (depth n) = rw j refl in
      record { few = omega (arith, few, less, left, right); core = rw j up.core }

  pub good_up : (m n : List ℕ) → is_good m ≡ true → IsWithin P (Ref m) (Ref n) → is_good n ≡ true
  good_up m n g w = by (within P m n w)
    where
      plain : is_array m ≡ false → Above P C m n → is_array n ≡ false
      plain i h = go (is_array n) refl
        where
          go : (b : Bool) → is_array n ≡ b → is_array n ≡ false
          go false e = e
          go true e = absurd (never (is_array m) (array_above P C m n h e) i)

      by : Within P m n → is_good n ≡ true
      by (classes i h) = plain_good n (plain i h)
      by (object i e) = subst (λ (n : List ℕ). is_good n ≡ true) (sym e) refl
      by (arrays i j h) = array_good n (array_up m n i j h (good_array m i g))
