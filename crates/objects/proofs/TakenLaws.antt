-- The taken methods of classes are the least closed set: rounds only add, and as many as there are methods reach the end.
use Rattle.std.proofs.Common.{◌≡◌, ℕ, zero, suc, ◌<◌, ◌≤◌, List, [], ◌∷◌, length, Bool, true, false, ◌||◌, refl, sym, ap, ◌∙◌, ◌⊎◌, inl, inr, arith}
use Rattle.std.specs.Prelude.{filter, cond}
use Rattle.std.specs.List.{AllByRecursion, list_any}
use Rattle.jmodel.specs.format.ClassFile.{ClassFile}
use Rattle.objects.specs.linking.Code.{is_root}
use Rattle.objects.specs.linking.Classes.{Declared, methods_in}
use Rattle.objects.specs.linking.Taken.{calls, is_next, is_found, is_taken, IsClosed, TakenLaw}

-- ---- sets of items

-- what the first set has the second has too
abbrev pub Within : {A : Type 0} → (A → Bool) → (A → Bool) → List A → Type 0
Within p q xs = AllByRecursion (λ x. p x ≡ true → q x ≡ true) xs

-- what is true of an item of the first list is true of one of the second
abbrev pub Covers : {A : Type 0} → List A → List A → Type 0
Covers {A} xs ys = (r : A → Bool) → list_any r xs ≡ true → list_any r ys ≡ true

pub or_right : (a b : Bool) → b ≡ true → (a || b) ≡ true
or_right true b h = refl
or_right false b h = h

pub or_mono : (a b c : Bool) → (b ≡ true → c ≡ true) → (a || b) ≡ true → (a || c) ≡ true
or_mono true b c f h = refl
or_mono false b c f h = f h

pub filter_covers : {A : Type 0} (p q : A → Bool) (xs : List A) → Within p q xs → Covers (filter p xs) (filter q xs)
filter_covers p q [] w r h = h
filter_covers p q (x ∷ xs) w r h = go (p x) (q x) w.0 (λ k. filter_covers p q xs w.1 r k) h
  where
    go : (a b : Bool) → (a ≡ true → b ≡ true) → (list_any r (filter p xs) ≡ true → list_any r (filter q xs) ≡ true)
        → list_any r (cond a (x ∷ filter p xs) (filter p xs)) ≡ true → list_any r (cond b (x ∷ filter q xs) (filter q xs)) ≡ true
    go true true f rest h = or_mono (r x) (list_any r (filter p xs)) (list_any r (filter q xs)) rest h
    go true false f rest h = let e : false ≡ true = f refl in cc
    go false true f rest h = or_right (r x) (list_any r (filter q xs)) (rest h)
    go false false f rest h = rest h

-- the two sets are one
abbrev pub Same : {A : Type 0} → (A → Bool) → (A → Bool) → List A → Type 0
Same p q xs = AllByRecursion (λ x. p x ≡ q x) xs

pub filter_same : {A : Type 0} (p q : A → Bool) (xs : List A) → Same p q xs → filter p xs ≡ filter q xs
filter_same p q [] w = refl
filter_same {A} p q (x ∷ xs) w = ap (λ (b : Bool). cond b (x ∷ filter p xs) (filter p xs)) w.0 ∙ ap (λ (l : List A). cond (q x) (x ∷ l) l) (filter_same p q xs w.1)

pub filter_fewer : {A : Type 0} (p q : A → Bool) (xs : List A) → Within p q xs → length (filter p xs) ≤ length (filter q xs)
filter_fewer p q [] w = omega arith
filter_fewer p q (x ∷ xs) w = go (p x) (q x) w.0 (filter_fewer p q xs w.1)
  where
    go : (a b : Bool) → (a ≡ true → b ≡ true) → length (filter p xs) ≤ length (filter q xs) → length (cond a (x ∷ filter p xs) (filter p xs)) ≤ length (cond b (x ∷ filter q xs) (filter q xs))
    go true true f h = omega (arith, h)
    go true false f h = let e : false ≡ true = f refl in cc
    go false true f h = omega (arith, h)
    go false false f h = h

pub filter_few : {A : Type 0} (p : A → Bool) (xs : List A) → length (filter p xs) ≤ length xs
filter_few p [] = omega arith
filter_few p (x ∷ xs) = go (p x) (filter_few p xs)
  where
    go : (a : Bool) → length (filter p xs) ≤ length xs → length (cond a (x ∷ filter p xs) (filter p xs)) ≤ length (x ∷ xs)
    go true h = omega (arith, h)
    go false h = omega (arith, h)

-- a set within another that isn't smaller is the same
pub same_size : {A : Type 0} (p q : A → Bool) (xs : List A) → Within p q xs → length (filter q xs) ≤ length (filter p xs) → Same p q xs
same_size p q [] w h = tt
same_size p q (x ∷ xs) w h = go (p x) (q x) w.0 refl refl (λ k. same_size p q xs w.1 k) (filter_fewer p q xs w.1) h
  where
    go : (a b : Bool) → (a ≡ true → b ≡ true) → p x ≡ a → q x ≡ b → (length (filter q xs) ≤ length (filter p xs) → Same p q xs) → length (filter p xs) ≤ length (filter q xs)
        → length (cond b (x ∷ filter q xs) (filter q xs)) ≤ length (cond a (x ∷ filter p xs) (filter p xs)) → Same p q (x ∷ xs)
    go true true f e g rest k h = (e ∙ sym g, rest (omega (arith, h)))
    go true false f e g rest k h = let e : false ≡ true = f refl in cc
    go false true f e g rest k h = absurd (omega (arith, h, k))
    go false false f e g rest k h = (e ∙ sym g, rest h)

pub all_map : {A : Type 0} (P Q : A → Type 0) (xs : List A) → ((x : A) → P x → Q x) → AllByRecursion P xs → AllByRecursion Q xs
all_map P Q [] f h = tt
all_map P Q (x ∷ xs) f h = (f x h.0, all_map P Q xs f h.1)

pub all_of : {A : Type 0} (P : A → Type 0) (xs : List A) → ((x : A) → P x) → AllByRecursion P xs
all_of P [] f = tt
all_of P (x ∷ xs) f = (f x, all_of P xs f)

-- ---- rounds

module _ (cs : List ClassFile) where
  pub next_mono : (s t : Declared → Bool) → Within s t (methods_in cs) → (m : Declared) → is_next cs s m ≡ true → is_next cs t m ≡ true
  next_mono s t w m h =
      or_mono (is_root m.class.pool m.member) (list_any (λ k. calls k m) (filter s (methods_in cs))) (list_any (λ k. calls k m) (filter t (methods_in cs))) (filter_covers s t (methods_in cs) w (λ k. calls k m)) h

  pub grows : (n : ℕ) → Within (is_found cs n) (is_found cs (suc n)) (methods_in cs)
  grows zero = all_of _ (methods_in cs) (λ m h. cc)
  grows (suc n) = all_of _ (methods_in cs) (λ m h. next_mono (is_found cs n) (is_found cs (suc n)) (grows n) m h)

  next_same : (s t : Declared → Bool) → Same s t (methods_in cs) → (m : Declared) → is_next cs s m ≡ is_next cs t m
  next_same s t w m = ap (λ (l : List Declared). is_root m.class.pool m.member || list_any (λ k. calls k m) l) (filter_same s t (methods_in cs) w)

  stays : (n : ℕ) → Same (is_found cs n) (is_found cs (suc n)) (methods_in cs) → Same (is_found cs (suc n)) (is_found cs (suc (suc n))) (methods_in cs)
  stays n w = all_of _ (methods_in cs) (λ m. next_same (is_found cs n) (is_found cs (suc n)) w m)

  -- either a round adds nothing, or as many as there were rounds are found
  progress : (n : ℕ) → Same (is_found cs n) (is_found cs (suc n)) (methods_in cs) ⊎ (n ≤ length (filter (is_found cs n) (methods_in cs)))
  progress zero = inr (omega arith)
  progress (suc n) = elim (progress n) [ inl w ↦ inl (stays n w) | inr h ↦ go h (nat_order (length (filter (is_found cs (suc n)) (methods_in cs))) (length (filter (is_found cs n) (methods_in cs)))) ]
    where
      nat_order : (a b : ℕ) → (a ≤ b) ⊎ (b < a)
      nat_order a b = grind arith

      go : n ≤ length (filter (is_found cs n) (methods_in cs)) → (length (filter (is_found cs (suc n)) (methods_in cs)) ≤ length (filter (is_found cs n) (methods_in cs))) ⊎ (length (filter (is_found cs n) (methods_in cs)) < length (filter (is_found cs (suc n)) (methods_in cs)))
          → Same (is_found cs (suc n)) (is_found cs (suc (suc n))) (methods_in cs) ⊎ (suc n ≤ length (filter (is_found cs (suc n)) (methods_in cs)))
      go h (inl e) = inl (stays n (same_size (is_found cs n) (is_found cs (suc n)) (methods_in cs) (grows n) e))
      go h (inr l) = inr (omega (arith, h, l))

  pub all_rounds : Same (is_taken cs) (is_found cs (suc (length (methods_in cs)))) (methods_in cs)
  all_rounds = elim (progress (length (methods_in cs))) [
    | inl w ↦ w
    | inr h ↦ (
        let few = filter_few (is_found cs (suc (length (methods_in cs)))) (methods_in cs) in
        same_size (is_taken cs) (is_found cs (suc (length (methods_in cs)))) (methods_in cs) (grows (length (methods_in cs))) (omega (arith, h, few)))
  ]

  pub closed : IsClosed cs (is_taken cs)
  closed = all_map _ _ (methods_in cs) (λ m e h. e ∙ h) all_rounds

  pub least_round : (t : Declared → Bool) → IsClosed cs t → (n : ℕ) → Within (is_found cs n) t (methods_in cs)
  least_round t h zero = all_of _ (methods_in cs) (λ m e. cc)
  least_round t h (suc n) = all_map _ _ (methods_in cs) (λ m k e. k (next_mono (is_found cs n) t (least_round t h n) m e)) h

pub taken_law : TakenLaw
taken_law cs = record { closed = closed cs; least = λ t h. least_round cs t h (length (methods_in cs)) }
