-- The number of classes never cuts a way upward short, where no class is above itself.
use Rattle.std.proofs.Common.{◌≡◌, ℕ, zero, suc, ◌+◌, ◌-◌, ◌<◌, ◌≤◌, List, [], ◌∷◌, ◌++◌, length, Bool, true, false, not, ◌||◌, nat_le, Option, Some, None, refl, sym, ap, ◌∙◌, subst, arith}
use Rattle.std.specs.Prelude.{filter, find, cond, bytes_eq}
use Rattle.std.specs.List.{AllByRecursion, list_any, flat_map}
use Rattle.std.specs.Option.{option_or}
use Rattle.std.proofs.lemmas.Bool.Decides.{nat_tests}
use Rattle.std.proofs.lemmas.List.Folds.{list_any-append}
use Rattle.std.proofs.lemmas.Slice.Eq.{bytes_eq-Decides}
use Rattle.jmodel.specs.declared.refusal.Refusal.{Refusal}
use Rattle.jmodel.specs.format.ClassFile.{ClassFile}
use Rattle.objects.specs.linking.Members.{own_name}
use Rattle.objects.specs.linking.Superclasses.{class_named, super_name, with_above, upward}
use Rattle.objects.specs.linking.Faults.{first_fault}
use Rattle.objects.specs.linking.Resolution.{interface_names, names_above, all_upward, ancestry, is_above_itself}
use Rattle.objects.specs.linking.ClassesFaults.{super_fault, circle_fault, supers_fault}
use Rattle.objects.specs.laws.LinkingLaw.{IsUpward}
use Rattle.objects.proofs.TakenLaws.{Within, Same, or_right, same_size, filter_few}

-- ---- texts and lists

same_name : (x y : List ℕ) → bytes_eq x y ≡ true → x ≡ y
same_name x y h = (bytes_eq-Decides x y).0 h

is_own : (x : List ℕ) → bytes_eq x x ≡ true
is_own x = (bytes_eq-Decides x x).1 refl

found_passes : {A : Type 0} (p : A → Bool) (xs : List A) (x : A) → find p xs ≡ Some x → p x ≡ true
found_passes p [] x h = cc
found_passes p (y ∷ ys) x h = go (p y) refl (found_passes p ys x) h
  where
    go : (b : Bool) → p y ≡ b → (find p ys ≡ Some x → p x ≡ true) → cond b (Some y) (find p ys) ≡ Some x → p x ≡ true
    go true e rest h = let same : y ≡ x = cc in ap p (sym same) ∙ e
    go false e rest h = rest h

found_has : {A : Type 0} (p : A → Bool) (P : A → Type 0) (xs : List A) (x : A) → find p xs ≡ Some x → AllByRecursion P xs → P x
found_has p P [] x h all = cc
found_has p P (y ∷ ys) x h all = go (p y) (λ k. found_has p P ys x k all.1) h
  where
    go : (b : Bool) → (find p ys ≡ Some x → P x) → cond b (Some y) (find p ys) ≡ Some x → P x
    go true rest h = let same : y ≡ x = cc in subst P same all.0
    go false rest h = rest h

or_left : (a b : Bool) → a ≡ true → (a || b) ≡ true
or_left true b h = refl
or_left false b h = cc

any_here : (q : ClassFile → Bool) (f : List ℕ → List ClassFile) (w : List ℕ) (xs : List (List ℕ)) → list_any (bytes_eq w) xs ≡ true → list_any q (f w) ≡ true → list_any q (flat_map f xs) ≡ true
any_here q f w [] h r = cc
any_here q f w (x ∷ xs) h r = list_any-append q (f x) (flat_map f xs) ∙ go (bytes_eq w x) refl (λ k. any_here q f w xs k r) h
  where
    go : (b : Bool) → bytes_eq w x ≡ b → (list_any (bytes_eq w) xs ≡ true → list_any q (flat_map f xs) ≡ true) → (b || list_any (bytes_eq w) xs) ≡ true → (list_any q (f x) || list_any q (flat_map f xs)) ≡ true
    go true e rest k = or_left (list_any q (f x)) (list_any q (flat_map f xs)) (subst (λ (y : List ℕ). list_any q (f y) ≡ true) (same_name w x e) r)
    go false e rest k = or_right (list_any q (f x)) (list_any q (flat_map f xs)) (rest k)

any_more : (q : ClassFile → Bool) (f g : List ℕ → List ClassFile) (xs : List (List ℕ)) → ((x : List ℕ) → list_any q (f x) ≡ true → list_any q (g x) ≡ true)
    → list_any q (flat_map f xs) ≡ true → list_any q (flat_map g xs) ≡ true
any_more q f g [] more h = h
any_more q f g (x ∷ xs) more h =
    list_any-append q (g x) (flat_map g xs) ∙ go (list_any q (f x)) refl (λ k. any_more q f g xs more k) (sym (list_any-append q (f x) (flat_map f xs)) ∙ h)
  where
    go : (b : Bool) → list_any q (f x) ≡ b → (list_any q (flat_map f xs) ≡ true → list_any q (flat_map g xs) ≡ true) → (b || list_any q (flat_map f xs)) ≡ true → (list_any q (g x) || list_any q (flat_map g xs)) ≡ true
    go true e rest k = or_left (list_any q (g x)) (list_any q (flat_map g xs)) (more x e)
    go false e rest k = or_right (list_any q (g x)) (list_any q (flat_map g xs)) (rest k)

flat_map_same : (f g : List ℕ → List ClassFile) (xs : List (List ℕ)) → ((w : List ℕ) → list_any (bytes_eq w) xs ≡ true → f w ≡ g w) → flat_map f xs ≡ flat_map g xs
flat_map_same f g [] h = refl
flat_map_same f g (x ∷ xs) h =
    ap (λ (l : List ClassFile). l ++ flat_map f xs) (h x (or_left (bytes_eq x x) (list_any (bytes_eq x) xs) (is_own x)))
    ∙ ap (λ (l : List ClassFile). g x ++ l) (flat_map_same f g xs (λ w k. h w (or_right (bytes_eq w x) (list_any (bytes_eq w) xs) k)))

-- a class's superclass is right above it
super_above : (c : ClassFile) (xs : List (List ℕ)) → list_any (bytes_eq (super_name c)) (xs ++ super_name c ∷ []) ≡ true
super_above c [] = or_left (bytes_eq (super_name c) (super_name c)) false (is_own (super_name c))
super_above c (x ∷ xs) = or_right (bytes_eq (super_name c) x) (list_any (bytes_eq (super_name c)) (xs ++ super_name c ∷ [])) (super_above c xs)

module _ (cs : List ClassFile) where
  named_own : (x : List ℕ) (c : ClassFile) → class_named cs x ≡ Some c → own_name c ≡ x
  named_own x c h = same_name (own_name c) x (found_passes (λ d. bytes_eq (own_name d) x) cs c h)

  -- ---- what is reached upward

  abbrev is_called : List ℕ → ClassFile → Bool
  is_called t e = bytes_eq (own_name e) t

  -- a class of a name stands at another, or above it, in so many steps
  abbrev Reaches : ℕ → List ℕ → List ℕ → Type 0
  Reaches n z t = list_any (is_called t) (all_upward cs n z) ≡ true

  reach_start : (n : ℕ) (x : List ℕ) (c : ClassFile) → class_named cs x ≡ Some c → Reaches (suc n) x x
  reach_start n x c h =
      ap (λ (o : Option ClassFile). list_any (is_called x) (with_above (λ d. flat_map (all_upward cs n) (names_above d)) o)) h
      ∙ or_left (is_called x c) (list_any (is_called x) (flat_map (all_upward cs n) (names_above c))) (ap (λ (y : List ℕ). bytes_eq y x) (named_own x c h) ∙ is_own x)

  reach_step : (n : ℕ) (z : List ℕ) (d : ClassFile) (w t : List ℕ) → class_named cs z ≡ Some d → list_any (bytes_eq w) (names_above d) ≡ true → Reaches n w t → Reaches (suc n) z t
  reach_step n z d w t h near r =
      ap (λ (o : Option ClassFile). list_any (is_called t) (with_above (λ e. flat_map (all_upward cs n) (names_above e)) o)) h
      ∙ or_right (is_called t d) (list_any (is_called t) (flat_map (all_upward cs n) (names_above d))) (any_here (is_called t) (all_upward cs n) w (names_above d) near r)

  reach_more : (n : ℕ) (z t : List ℕ) → Reaches n z t → Reaches (suc n) z t
  reach_more zero z t r = cc
  reach_more (suc n) z t r = go (λ x k. reach_more n x t k) (class_named cs z) r
    where
      inside : ((x : List ℕ) → Reaches n x t → Reaches (suc n) x t) → (d : ClassFile) (b : Bool) → (b || list_any (is_called t) (flat_map (all_upward cs n) (names_above d))) ≡ true
          → (b || list_any (is_called t) (flat_map (all_upward cs (suc n)) (names_above d))) ≡ true
      inside more d true r = refl
      inside more d false r = any_more (is_called t) (all_upward cs n) (all_upward cs (suc n)) (names_above d) more r

      go : ((x : List ℕ) → Reaches n x t → Reaches (suc n) x t) → (o : Option ClassFile) → list_any (is_called t) (with_above (λ e. flat_map (all_upward cs n) (names_above e)) o) ≡ true
          → list_any (is_called t) (with_above (λ e. flat_map (all_upward cs (suc n)) (names_above e)) o) ≡ true
      go more None r = r
      go more (Some d) r = inside more d (is_called t d) r

  reach_by : (k n : ℕ) (z t : List ℕ) → Reaches n z t → Reaches (k + n) z t
  reach_by zero n z t r = let e : 0 + n ≡ n = omega arith in subst (λ (m : ℕ). Reaches m z t) (sym e) r
  reach_by (suc k) n z t r =
      let e : suc k + n ≡ suc (k + n) = omega arith in
      subst (λ (m : ℕ). Reaches m z t) (sym e) (reach_more (k + n) z t (reach_by k n z t r))

  -- ---- ways

  -- names that stand above one another, the highest first: a name stands right above the first, which is of a class, that right above the next ..
  abbrev IsWay : List ℕ → List (List ℕ) → Type 0
  IsWay x [] = Unit {0}
  IsWay x (y ∷ ys) = (d : ClassFile) × (class_named cs y ≡ Some d) × (list_any (bytes_eq x) (names_above d) ≡ true) × IsWay y ys

  -- a class whose name is on its own way is above itself
  loops : (p : List (List ℕ)) (w : List ℕ) (n : ℕ) (x : List ℕ) (c : ClassFile) → class_named cs x ≡ Some c → IsWay w p → Reaches n w x → list_any (bytes_eq x) p ≡ true
      → n + length p ≤ suc (length cs) → is_above_itself cs c ≡ true
  loops [] w n x c named way reach among few = cc
  loops (y ∷ p) w n x c named way reach among few =
      go (bytes_eq x y) refl (λ k. loops p y (suc n) x c named way.3 (reach_step n y way.0 w x way.1 way.2 reach) k (omega (arith, few))) among
    where
      go : (b : Bool) → bytes_eq x y ≡ b → (list_any (bytes_eq x) p ≡ true → is_above_itself cs c ≡ true) → (b || list_any (bytes_eq x) p) ≡ true → is_above_itself cs c ≡ true
      go false e rest k = rest k
      go true e rest k =
          let there : class_named cs x ≡ Some way.0 = ap (class_named cs) (same_name x y e) ∙ way.1 in
          let same : way.0 ≡ c = cc in
          let near : list_any (bytes_eq w) (names_above c) ≡ true = subst (λ (d : ClassFile). list_any (bytes_eq w) (names_above d) ≡ true) same way.2 in
          let rest : ℕ = length cs - n in
          let whole : rest + n ≡ length cs = omega (arith, few) in
          let far : Reaches (length cs) w x = subst (λ (m : ℕ). Reaches m w x) whole (reach_by rest n w x reach) in
          subst (λ (t : List ℕ). list_any (is_called t) (flat_map (ancestry cs) (names_above c)) ≡ true) (sym (named_own x c named)) (any_here (is_called x) (all_upward cs (length cs)) w (names_above c) near far)

  -- ---- how many classes aren't on a way

  abbrev is_off : List (List ℕ) → ClassFile → Bool
  is_off p c = not (list_any (bytes_eq (own_name c)) p)

  abbrev off : List (List ℕ) → ℕ
  off p = length (filter (is_off p) cs)

  off_within : (x : List ℕ) (p : List (List ℕ)) (ds : List ClassFile) → Within (is_off (x ∷ p)) (is_off p) ds
  off_within x p [] = tt
  off_within x p (d ∷ ds) = (go (bytes_eq (own_name d) x) (list_any (bytes_eq (own_name d)) p), off_within x p ds)
    where
      go : (a b : Bool) → not (a || b) ≡ true → not b ≡ true
      go true b h = cc
      go false b h = h

  fewer : (x : List ℕ) (c : ClassFile) (p : List (List ℕ)) → class_named cs x ≡ Some c → list_any (bytes_eq x) p ≡ false → off (x ∷ p) < off p
  fewer x c p named none = go (nat_le (off p) (off (x ∷ p))) refl
    where
      own : own_name c ≡ x
      own = named_own x c named

      go : (b : Bool) → nat_le (off p) (off (x ∷ p)) ≡ b → off (x ∷ p) < off p
      go false e = grind (arith, nat_tests)
      go true e =
          let many : off p ≤ off (x ∷ p) = grind (arith, nat_tests) in
          let all : Same (is_off (x ∷ p)) (is_off p) cs = same_size (is_off (x ∷ p)) (is_off p) cs (off_within x p cs) many in
          let at : is_off (x ∷ p) c ≡ is_off p c = found_has (λ d. bytes_eq (own_name d) x) (λ d. is_off (x ∷ p) d ≡ is_off p d) cs c named all in
          let first : is_off (x ∷ p) c ≡ false = ap (λ (b : Bool). not (b || list_any (bytes_eq (own_name c)) p)) (ap (λ (y : List ℕ). bytes_eq y x) own ∙ is_own x) in
          let second : is_off p c ≡ true = ap not (ap (λ (y : List ℕ). list_any (bytes_eq y) p) own ∙ none) in
          absurd cc

  -- ---- one step more finds nothing more

  module _ (free : AllByRecursion (λ (c : ClassFile). is_above_itself cs c ≡ false) cs) where
    -- a name on its own way is that of no class
    on_way : (x : List ℕ) (c : ClassFile) (p : List (List ℕ)) → class_named cs x ≡ Some c → IsWay x p → length p + off p ≤ length cs → list_any (bytes_eq x) p ≡ false
    on_way x c p named way few = go (list_any (bytes_eq x) p) refl
      where
        go : (b : Bool) → list_any (bytes_eq x) p ≡ b → list_any (bytes_eq x) p ≡ false
        go false e = e
        go true e =
            let circle : is_above_itself cs c ≡ true = loops p x 1 x c named way (reach_start 0 x c named) e (omega (arith, few)) in
            let none : is_above_itself cs c ≡ false = found_has (λ d. bytes_eq (own_name d) x) (λ d. is_above_itself cs d ≡ false) cs c named free in
            absurd cc

    longer : (n : ℕ) (x : List ℕ) (p : List (List ℕ)) → IsWay x p → off p ≤ n → length p + off p ≤ length cs → all_upward cs n x ≡ all_upward cs (suc n) x
    longer zero x p way enough few = go (class_named cs x) refl
      where
        go : (o : Option ClassFile) → class_named cs x ≡ o → [] ≡ with_above (λ c. flat_map (all_upward cs zero) (names_above c)) o
        go None e = refl
        go (Some c) e = absurd (omega (arith, enough, fewer x c p e (on_way x c p e way few)))
    longer (suc n) x p way enough few = go (class_named cs x) refl (λ w q. longer n w q)
      where
        go : (o : Option ClassFile) → class_named cs x ≡ o
            → ((w : List ℕ) (q : List (List ℕ)) → IsWay w q → off q ≤ n → length q + off q ≤ length cs → all_upward cs n w ≡ all_upward cs (suc n) w)
            → with_above (λ c. flat_map (all_upward cs n) (names_above c)) o ≡ with_above (λ c. flat_map (all_upward cs (suc n)) (names_above c)) o
        go None e next = refl
        go (Some c) e next =
            let less = fewer x c p e (on_way x c p e way few) in
            ap (λ (l : List ClassFile). c ∷ l) (flat_map_same (all_upward cs n) (all_upward cs (suc n)) (names_above c)
            (λ w near. next w (x ∷ p) (c, e, near, way) (omega (arith, less, enough)) (omega (arith, less, few))))

    longer_supers : (n : ℕ) (x : List ℕ) (p : List (List ℕ)) → IsWay x p → off p ≤ n → length p + off p ≤ length cs → upward cs n x ≡ upward cs (suc n) x
    longer_supers zero x p way enough few = go (class_named cs x) refl
      where
        go : (o : Option ClassFile) → class_named cs x ≡ o → [] ≡ with_above (λ c. upward cs zero (super_name c)) o
        go None e = refl
        go (Some c) e = absurd (omega (arith, enough, fewer x c p e (on_way x c p e way few)))
    longer_supers (suc n) x p way enough few = go (class_named cs x) refl (λ w q. longer_supers n w q)
      where
        go : (o : Option ClassFile) → class_named cs x ≡ o
            → ((w : List ℕ) (q : List (List ℕ)) → IsWay w q → off q ≤ n → length q + off q ≤ length cs → upward cs n w ≡ upward cs (suc n) w)
            → with_above (λ c. upward cs n (super_name c)) o ≡ with_above (λ c. upward cs (suc n) (super_name c)) o
        go None e next = refl
        go (Some c) e next =
            let less = fewer x c p e (on_way x c p e way few) in
            ap (λ (l : List ClassFile). c ∷ l)
            (next (super_name c) (x ∷ p) (c, e, super_above c (interface_names c), way) (omega (arith, less, enough)) (omega (arith, less, few)))

    goes_upward : IsUpward cs
    goes_upward =
        let few : off [] ≤ length cs = filter_few (is_off []) cs in
        record {
          supers = λ name. longer_supers (length cs) name [] tt few (omega (arith, few));
          all = λ name. longer (length cs) name [] tt few (omega (arith, few));
        }

-- ---- where there is no fault

no_circle : (cs ds : List ClassFile) → first_fault (circle_fault cs) ds ≡ None → AllByRecursion (λ (c : ClassFile). is_above_itself cs c ≡ false) ds
no_circle cs [] h = tt
no_circle cs (d ∷ ds) h = go (is_above_itself cs d) refl (no_circle cs ds) h
  where
    go : (b : Bool) → is_above_itself cs d ≡ b → (first_fault (circle_fault cs) ds ≡ None → AllByRecursion (λ (c : ClassFile). is_above_itself cs c ≡ false) ds)
        → first_fault (circle_fault cs) (d ∷ ds) ≡ None → AllByRecursion (λ (c : ClassFile). is_above_itself cs c ≡ false) (d ∷ ds)
    go false e rest h = (e, rest (rw e at h))
    go true e rest h = absurd (let k = (rw e at h) in cc)

pub upward_law : (cs : List ClassFile) → supers_fault cs ≡ None → IsUpward cs
upward_law cs h = goes_upward cs (no_circle cs cs (go (first_fault (super_fault cs) cs) h))
  where
    go : (o : Option Refusal) → option_or o (first_fault (circle_fault cs) cs) ≡ None → first_fault (circle_fault cs) cs ≡ None
    go None h = h
    go (Some r) h = cc
