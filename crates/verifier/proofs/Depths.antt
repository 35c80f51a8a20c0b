-- The brackets that two descriptors both begin with.
use Rattle.std.proofs.Common.{◌≡◌, ℕ, zero, suc, ◌+◌, ◌≤◌, List, [], ◌∷◌, length, drop, Option, Some, None, Bool, true, false, refl, sym, ap, ◌∙◌, arith}
use Rattle.std.specs.Prelude.{◌==◌, Result, Ok, Err, IfOk, option_map, if◌then◌else◌}
use Rattle.objects.specs.semantics.Program.{Program}
use Rattle.objects.specs.typing.TypeOrder.{is_array, without_last}
use Rattle.verifier.specs.Order.{arrays_over, join_element, join_base, join_class, class_descriptor, join_described, join_other, common_depth, wrapped}
use Rattle.objects.specs.typing.Typing.{begins}
use Rattle.std.proofs.lemmas.Bool.Decides.{nat_tests}

drop_more : (l : List ℕ) (i : ℕ) → drop 1 (drop i l) ≡ drop (i + 1) l
drop_more l zero = refl
drop_more [] (suc i) = let n : suc i + 1 ≡ suc (i + 1) = omega arith in rw n refl
drop_more (c ∷ l) (suc i) = let n : suc i + 1 ≡ suc (i + 1) = omega arith in drop_more l i ∙ rw n refl

deeper : (m n : List ℕ) → is_array m ≡ true → is_array n ≡ true → common_depth m n ≡ suc (common_depth (drop 1 m) (drop 1 n))
deeper [] n e f = cc
deeper (c ∷ m) [] e f = cc
deeper (c ∷ m) (d ∷ n) e f = rw (e, f) refl

pub depth_more : (m n : List ℕ) (i : ℕ) → is_array (drop i m) ≡ true → is_array (drop i n) ≡ true → common_depth (drop i m) (drop i n) ≡ 1 + common_depth (drop (i + 1) m) (drop (i + 1) n)
depth_more m n i e f =
    let x = drop_more m i in
    let y = drop_more n i in
    let d : suc (common_depth (drop 1 (drop i m)) (drop 1 (drop i n))) ≡ 1 + common_depth (drop (i + 1) m) (drop (i + 1) n) = rw (x, y) (omega arith) in
    deeper (drop i m) (drop i n) e f ∙ d

first_plain : (m n : List ℕ) → is_array m ≡ false → common_depth m n ≡ 0
first_plain [] n e = refl
first_plain (c ∷ m) [] e = refl
first_plain (c ∷ m) (d ∷ n) e = rw e refl

second_plain : (m n : List ℕ) → is_array n ≡ false → common_depth m n ≡ 0
second_plain [] n e = refl
second_plain (c ∷ m) [] e = refl
second_plain (c ∷ m) (d ∷ n) e = by (c == 91)
  where
    by : (b : Bool) → (if b then (if d == 91 then suc (common_depth m n) else 0) else 0) ≡ 0
    by true = rw e refl
    by false = refl

pub depth_end : (m n : List ℕ) → is_array m ≡ false → common_depth m n ≡ 0
depth_end = first_plain

pub depth_past : (m n : List ℕ) → is_array n ≡ false → common_depth m n ≡ 0
depth_past = second_plain

pub depth_none : (m n : List ℕ) (i : ℕ) → length m ≤ i → common_depth (drop i m) (drop i n) ≡ 0
depth_none [] n zero h = refl
depth_none [] n (suc i) h = refl
depth_none (c ∷ m) n zero h = absurd (omega arith)
depth_none (c ∷ m) [] (suc i) h = by (drop i m)
  where
    by : (l : List ℕ) → common_depth l [] ≡ 0
    by [] = refl
    by (x ∷ l) = refl
depth_none (c ∷ m) (d ∷ n) (suc i) h = depth_none m n i (omega arith)

over_wrapped : (i : ℕ) (o : Option (List ℕ)) → Some (arrays_over (wrapped i o)) ≡ wrapped (suc i) o
over_wrapped i (Some x) = refl
over_wrapped zero None = refl
over_wrapped (suc i) None = refl

module _ (P : Program) where
  abbrev by_depth : List ℕ → List ℕ → ℕ → Option (List ℕ)
  by_depth m n d = wrapped d (join_base P (drop d m) (drop d n))

  plain_wrapped : (o : Option (List ℕ)) → o ≡ wrapped 0 o
  plain_wrapped None = refl
  plain_wrapped (Some x) = refl

  depth_is : (m n : List ℕ) → join_element P m n ≡ by_depth m n (common_depth m n)
  depth_is [] n = refl
  depth_is (c ∷ m) [] = refl
  depth_is (c ∷ m) (d ∷ n) = by (depth_is m n) (c == 91) (d == 91) refl refl
    where
      by : join_element P m n ≡ by_depth m n (common_depth m n) → (x y : Bool) → (c == 91) ≡ x → (d == 91) ≡ y → join_element P (c ∷ m) (d ∷ n) ≡ by_depth (c ∷ m) (d ∷ n) (common_depth (c ∷ m) (d ∷ n))
      by rest true true e f = rw (e, f) (ap (λ (o : Option (List ℕ)). Some (arrays_over o)) rest ∙ over_wrapped (common_depth m n) (join_base P (drop (common_depth m n) m) (drop (common_depth m n) n)))
      by rest true false e f = rw (e, f) (plain_wrapped _ ∙ rw e refl)
      by rest false y e f = rw e (plain_wrapped _ ∙ rw e refl)

  -- for the code
  pub element_is : (m n : List ℕ) (d : ℕ) (o : Option (List ℕ)) → d ≡ common_depth m n → o ≡ join_base P (drop d m) (drop d n) → wrapped d o ≡ join_element P m n
  element_is m n d o e f = ap (wrapped d) f ∙ ap (by_depth m n) e ∙ sym (depth_is m n)

  -- by whether both are classes
  pub base_classes : (m n : List ℕ) → begins 76 m ≡ true → begins 76 n ≡ true → join_base P m n ≡ join_described P m n
  base_classes [] n e f = cc
  base_classes (c ∷ m) [] e f = cc
  base_classes (c ∷ m) (d ∷ n) e f = let s : c ≡ 76 = grind (arith, nat_tests) in let g : (c == 91) ≡ false = grind (arith, nat_tests) in rw (g, e, f) refl

  pub base_first : (m n : List ℕ) → begins 76 m ≡ false → join_base P m n ≡ join_other P m n
  base_first [] n e = refl
  base_first (c ∷ m) [] e = refl
  base_first (c ∷ m) (d ∷ n) e = rw e refl

  pub base_second : (m n : List ℕ) → begins 76 n ≡ false → join_base P m n ≡ join_other P m n
  base_second [] n e = refl
  base_second (c ∷ m) [] e = refl
  base_second (c ∷ m) (d ∷ n) e = rw e refl

  -- for the code: the classes of two descriptors, joined
  pub described_ok : {E : Type 0} (r : Result (Option (List ℕ)) E) (o : Option (List ℕ)) (a b f g m n : List ℕ) → a ≡ without_last f → f ≡ drop 1 m → b ≡ without_last g → g ≡ drop 1 n → o ≡ join_class P a b
      → IfOk r (λ (x : Option (List ℕ)). x ≡ option_map class_descriptor o) → IfOk r (λ (x : Option (List ℕ)). x ≡ join_described P m n)
  described_ok (Ok x) o a b f g m n e h i j k p =
      let s : a ≡ without_last (drop 1 m) = e ∙ ap without_last h in
      let t : b ≡ without_last (drop 1 n) = i ∙ ap without_last j in
      p ∙ ap (option_map class_descriptor) (k ∙ ap (λ (a : List ℕ). join_class P a b) s ∙ ap (join_class P (without_last (drop 1 m))) t)
  described_ok (Err x) o a b f g m n e h i j k p = p
