-- Where a long lies among a duplicate's locals, and what is left of one whose one place is written.
use Rattle.std.proofs.Common.{◌≡◌, ◌≢◌, ℕ, zero, suc, ◌+◌, ◌-◌, ◌<◌, ◌≤◌, List, [], ◌∷◌, length, Option, Some, None, Bool, true, false, refl, sym, ap, subst, ◌∙◌, arith, ◌⊎◌, inl, inr, ⊎_elim}
use Rattle.std.specs.Prelude.{slice_get, slice_set}
use Rattle.std.proofs.lemmas.Bool.{cases_lt}
use Rattle.std.proofs.lemmas.Bool.Decides.{nat_tests}
use Rattle.jmodel.specs.declared.typing.VType.{VType}
use Rattle.jmodel.specs.declared.typing.VType.TheVariants.{Int, Long, Second, Null, Ref, Uninit, UninitThis, Top}
use Rattle.objects.specs.typing.TypeOrder.{IsLocals, IsLocalsAfter}
use Rattle.objects.specs.typing.Typing.{freed, freed_by}
use Rattle.objects.specs.rewriting.Rewriting.{moved}
use Rattle.objects.proofs.Heap.{one_or}
use Rattle.objects.proofs.Agreeing.{set_same}
use Rattle.objects.proofs.CopiedLocals.{before, after, copied, IsPlainKind, copied_plain, copied_set}

-- ---- longs among locals

pub long_then : (b : Bool) (ls : List VType) (i : ℕ) → IsLocalsAfter b ls → slice_get ls i ≡ Some Long → slice_get ls (suc i) ≡ Some Second
long_then b [] i h e = cc
long_then false (Long ∷ Second ∷ ls) zero h e = refl
long_then false (Long ∷ []) zero h e = absurd h
long_then false (Long ∷ t ∷ ls) zero h e = absurd h
long_then true (Long ∷ ls) i h e = absurd h
long_then b (t ∷ ls) zero h e = cc
long_then false (Int ∷ ls) (suc i) h e = long_then false ls i h e
long_then false (Null ∷ ls) (suc i) h e = long_then false ls i h e
long_then false (Ref n ∷ ls) (suc i) h e = long_then false ls i h e
long_then false (Uninit p ∷ ls) (suc i) h e = long_then false ls i h e
long_then false (UninitThis ∷ ls) (suc i) h e = long_then false ls i h e
long_then false (Top ∷ ls) (suc i) h e = long_then false ls i h e
long_then false (Long ∷ ls) (suc i) h e = long_then true ls i h e
long_then true (Second ∷ ls) (suc i) h e = long_then false ls i h e
long_then b (t ∷ ls) (suc i) h e = absurd h

-- the first place of a long stands before its second
abbrev pub Follows : List VType → ℕ → Type 0
Follows ls i = (j : ℕ) × (i ≡ suc j) × (slice_get ls j ≡ Some Long)

shifted : (t : VType) (ls : List VType) (i : ℕ) → Follows ls i → Follows (t ∷ ls) (suc i)
shifted t ls i f = (suc f.0, ap suc f.1, f.2)

second_after : (b : Bool) (ls : List VType) (i : ℕ) → IsLocalsAfter b ls → slice_get ls i ≡ Some Second → ((b ≡ true) × (i ≡ 0)) ⊎ Follows ls i
second_after b [] i h e = cc
second_after true (Second ∷ ls) zero h e = inl (refl, refl)
second_after false (Second ∷ ls) i h e = absurd h
second_after b (t ∷ ls) zero h e = cc
second_after false (Int ∷ ls) (suc i) h e = ⊎_elim (λ (x : (false ≡ true) × (i ≡ 0)). let no = x.0 in absurd (cc (no))) (λ (f : Follows ls i). inr (shifted Int ls i f)) (second_after false ls i h e)
second_after false (Null ∷ ls) (suc i) h e = ⊎_elim (λ (x : (false ≡ true) × (i ≡ 0)). let no = x.0 in absurd (cc (no))) (λ (f : Follows ls i). inr (shifted Null ls i f)) (second_after false ls i h e)
second_after false (Ref n ∷ ls) (suc i) h e = ⊎_elim (λ (x : (false ≡ true) × (i ≡ 0)). let no = x.0 in absurd (cc (no))) (λ (f : Follows ls i). inr (shifted (Ref n) ls i f)) (second_after false ls i h e)
second_after false (Uninit p ∷ ls) (suc i) h e = ⊎_elim (λ (x : (false ≡ true) × (i ≡ 0)). let no = x.0 in absurd (cc (no))) (λ (f : Follows ls i). inr (shifted (Uninit p) ls i f)) (second_after false ls i h e)
second_after false (UninitThis ∷ ls) (suc i) h e = ⊎_elim (λ (x : (false ≡ true) × (i ≡ 0)). let no = x.0 in absurd (cc (no))) (λ (f : Follows ls i). inr (shifted UninitThis ls i f)) (second_after false ls i h e)
second_after false (Top ∷ ls) (suc i) h e = ⊎_elim (λ (x : (false ≡ true) × (i ≡ 0)). let no = x.0 in absurd (cc (no))) (λ (f : Follows ls i). inr (shifted Top ls i f)) (second_after false ls i h e)
second_after false (Long ∷ ls) (suc i) h e = ⊎_elim (λ (x : (true ≡ true) × (i ≡ 0)). inr (0, ap suc x.1, refl)) (λ (f : Follows ls i). inr (shifted Long ls i f)) (second_after true ls i h e)
second_after true (Second ∷ ls) (suc i) h e = ⊎_elim (λ (x : (false ≡ true) × (i ≡ 0)). let no = x.0 in absurd (cc (no))) (λ (f : Follows ls i). inr (shifted Second ls i f)) (second_after false ls i h e)
second_after b (t ∷ ls) (suc i) h e = absurd h

-- a long that has a place here has both
pub record IsWhole (ls : List VType) (i : ℕ) : Type 0 where
  pub second : slice_get ls i ≡ Some Second → Follows ls i
  pub first : slice_get ls i ≡ Some Long → slice_get ls (suc i) ≡ Some Second

pub whole : (ls : List VType) (i : ℕ) → IsLocals ls → IsWhole ls i
whole ls i h = record {
  second = λ e. ⊎_elim (λ (x : (false ≡ true) × (i ≡ 0)). let no = x.0 in absurd (cc (no))) (λ (f : Follows ls i). f) (second_after false ls i h e);
  first = long_then false ls i h;
}

-- ---- where they lie in the duplicate

pub low_long : (p : ℕ) (ls : List VType) (i : ℕ) → suc i < p → slice_get ls i ≡ Some Long → slice_get (copied p ls) i ≡ Some Long
low_long zero ls i lt e = absurd (omega (arith, lt))
low_long (suc p) [] i lt e = cc
low_long (suc zero) (x ∷ ls) i lt e = absurd (omega (arith, lt))
low_long (suc (suc p)) (x ∷ ls) zero lt e = let s : x ≡ Long = cc in ap (λ (y : VType). Some (before y (suc p))) s
low_long (suc (suc p)) (x ∷ ls) (suc i) lt e = low_long (suc p) ls i (omega (arith, lt)) e

pub low_second : (p : ℕ) (ls : List VType) (i : ℕ) → i < p → slice_get ls i ≡ Some Second → slice_get (copied p ls) i ≡ Some Second
low_second zero ls i lt e = absurd (omega (arith, lt))
low_second (suc p) [] i lt e = cc
low_second (suc p) (x ∷ ls) zero lt e = let s : x ≡ Second = cc in ap (λ (y : VType). Some (before y p)) s
low_second (suc p) (x ∷ ls) (suc i) lt e = low_second p ls i (omega (arith, lt)) e

after_long : (ls : List VType) (i : ℕ) → slice_get ls i ≡ Some Long → slice_get (after ls) i ≡ Some Long
after_long [] i e = cc
after_long (Second ∷ ls) zero e = cc
after_long (Second ∷ ls) (suc i) e = e
after_long (x ∷ ls) i e = e

after_second : (ls : List VType) (i : ℕ) → slice_get ls (suc i) ≡ Some Second → slice_get (after ls) (suc i) ≡ Some Second
after_second [] i e = cc
after_second (Second ∷ ls) i e = e
after_second (x ∷ ls) i e = e

pub high_long : (p : ℕ) (ls : List VType) (i : ℕ) → p ≤ i → slice_get ls i ≡ Some Long → slice_get (copied p ls) (suc i) ≡ Some Long
high_long zero ls i le e = after_long ls i e
high_long (suc p) [] i le e = cc
high_long (suc p) (x ∷ ls) zero le e = absurd (omega (arith, le))
high_long (suc p) (x ∷ ls) (suc i) le e = high_long p ls i (omega (arith, le)) e

pub high_second : (p : ℕ) (ls : List VType) (i : ℕ) → p < i → slice_get ls i ≡ Some Second → slice_get (copied p ls) (suc i) ≡ Some Second
high_second p [] i lt e = cc
high_second p (x ∷ ls) zero lt e = absurd (omega (arith, lt))
high_second zero (x ∷ ls) (suc i) lt e = after_second (x ∷ ls) i e
high_second (suc p) (x ∷ ls) (suc i) lt e = high_second p ls i (omega (arith, lt)) e

-- a long that the context parts is nowhere
pub parted_first : (p : ℕ) (ls : List VType) → slice_get ls p ≡ Some Long → slice_get (copied (suc p) ls) p ≡ Some Top
parted_first p [] e = cc
parted_first zero (x ∷ ls) e = let s : x ≡ Long = cc in ap (λ (y : VType). Some (before y 0)) s
parted_first (suc p) (x ∷ ls) e = parted_first p ls e

pub parted_second : (p : ℕ) (ls : List VType) → slice_get ls p ≡ Some Second → slice_get (copied p ls) (suc p) ≡ Some Top
parted_second p [] e = cc
parted_second zero (x ∷ ls) e = let s : x ≡ Second = cc in ap (λ (y : VType). slice_get (after (y ∷ ls)) 0) s
parted_second (suc p) (x ∷ ls) e = parted_second p ls e

pub moved_low : (p i : ℕ) → i < p → moved p i ≡ i
moved_low p i lt = grind (arith, nat_tests)

pub moved_high : (p i : ℕ) → p ≤ i → moved p i ≡ suc i
moved_high p i le = grind (arith, nat_tests)

-- ---- what is left of a long

module _ (p : ℕ) (ls : List VType) (i : ℕ) (w : IsWhole ls i) where
  abbrev ds : List VType
  ds = copied p ls

  -- the freed place of the copy is the copy of the freed place
  set_top : (j q : ℕ) → moved p j ≡ q → copied p (slice_set ls j Top) ≡ slice_set ds q Top
  set_top j q e = copied_set p ls j Top tt ∙ ap (λ (x : ℕ). slice_set ds x Top) e

  set_nothing : (j q : ℕ) → moved p j ≡ q → slice_get ds q ≡ Some Top → copied p (slice_set ls j Top) ≡ ds
  set_nothing j q e is = set_top j q e ∙ set_same ds q Top is

  abbrev Freed : ℕ → Option VType → Type 0
  Freed q o = copied p (freed_by o i ls) ≡ freed_by (slice_get ds q) q ds

  of_long : slice_get ls i ≡ Some Long → Freed (moved p i) (Some Long)
  of_long e = ⊎_elim
      (λ (lt : i < p). ⊎_elim
      (λ (s : suc i ≡ p).
      let there : slice_get ds i ≡ Some Top = subst (λ (q : ℕ). slice_get (copied q ls) i ≡ Some Top) s (parted_first i ls e) in
      let z = moved_low p i lt in
      let next : i + 1 ≡ p = omega (arith, s) in
      let gone : slice_get ds (suc p) ≡ Some Top = parted_second p ls (ap (slice_get ls) (sym s) ∙ w.first e) in
      ap (λ (x : ℕ). copied p (slice_set ls x Top)) next ∙ set_nothing p (suc p) (moved_high p p (omega arith)) gone ∙ sym (ap (λ (q : ℕ). freed_by (slice_get ds q) q ds) z ∙ ap (λ (o : Option VType). freed_by o i ds) there))
      (λ (ne : suc i ≢ p).
      let lt1 : suc i < p = omega (arith, lt, ne) in
      let lt2 : i + 1 < p = omega (arith, lt1) in
      let z = moved_low p i lt in
      set_top (i + 1) (i + 1) (moved_low p (i + 1) lt2) ∙ sym (ap (λ (q : ℕ). freed_by (slice_get ds q) q ds) z ∙ ap (λ (o : Option VType). freed_by o i ds) (low_long p ls i lt1 e)))
      (one_or (suc i) p))
      (λ (le : p ≤ i).
      let z = moved_high p i le in
      let up : moved p (i + 1) ≡ suc i + 1 = moved_high p (i + 1) (omega (arith, le)) ∙ (omega arith) in
      set_top (i + 1) (suc i + 1) up ∙ sym (ap (λ (q : ℕ). freed_by (slice_get ds q) q ds) z ∙ ap (λ (o : Option VType). freed_by o (suc i) ds) (high_long p ls i le e)))
      (cases_lt i p)

  of_second : slice_get ls i ≡ Some Second → Freed (moved p i) (Some Second)
  of_second e =
      let f = w.second e in
      let j = f.0 in
      let is = f.1 in
      let back : i - 1 ≡ j = omega (arith, is) in
      ap (λ (x : ℕ). copied p (slice_set ls x Top)) back ∙ ⊎_elim
      (λ (lt : i < p).
      let z = moved_low p i lt in
      set_top j (i - 1) (moved_low p j (omega (arith, lt, is)) ∙ sym back) ∙ sym (ap (λ (q : ℕ). freed_by (slice_get ds q) q ds) z ∙ ap (λ (o : Option VType). freed_by o i ds) (low_second p ls i lt e)))
      (λ (le : p ≤ i). ⊎_elim
      (λ (s : i ≡ p).
      let z = moved_high p i le in
      let here : slice_get ds (suc i) ≡ Some Top = subst (λ (q : ℕ). slice_get (copied q ls) (suc i) ≡ Some Top) s (parted_second i ls e) in
      let gone : slice_get ds j ≡ Some Top = subst (λ (q : ℕ). slice_get (copied q ls) j ≡ Some Top) (sym is ∙ s) (parted_first j ls f.2) in
      set_nothing j j (moved_low p j (omega (arith, s, is))) gone ∙ sym (ap (λ (q : ℕ). freed_by (slice_get ds q) q ds) z ∙ ap (λ (o : Option VType). freed_by o (suc i) ds) here))
      (λ (ne : i ≢ p).
      let lt : p < i = omega (arith, le, ne) in
      let z = moved_high p i le in
      let down : moved p j ≡ suc i - 1 = moved_high p j (omega (arith, lt, is)) ∙ (omega (arith, is)) in
      set_top j (suc i - 1) down ∙ sym (ap (λ (q : ℕ). freed_by (slice_get ds q) q ds) z ∙ ap (λ (o : Option VType). freed_by o (suc i) ds) (high_second p ls i lt e)))
      (one_or i p))
      (cases_lt i p)

  plain_freed : (t : VType) → IsPlainKind t → (j : ℕ) (us : List VType) → freed_by (Some t) j us ≡ us
  plain_freed Long k j us = absurd k
  plain_freed Second k j us = absurd k
  plain_freed t k j us = refl

  of_plain : (t : VType) → slice_get ls i ≡ Some t → IsPlainKind t → Freed (moved p i) (Some t)
  of_plain t e k =
      let q = moved p i in
      ap (copied p) (plain_freed t k i ls) ∙ sym (ap (λ (o : Option VType). freed_by o q ds) (copied_plain p ls i t e k) ∙ plain_freed t k q ds)

  by_type : (t : VType) → slice_get ls i ≡ Some t → Freed (moved p i) (Some t)
  by_type Long e = of_long e
  by_type Second e = of_second e
  by_type Int e = of_plain Int e tt
  by_type Null e = of_plain Null e tt
  by_type (Ref n) e = of_plain (Ref n) e tt
  by_type (Uninit q) e = of_plain (Uninit q) e tt
  by_type UninitThis e = of_plain UninitThis e tt
  by_type Top e = of_plain Top e tt

  pub copied_freed : i < length ls → copied p (freed i ls) ≡ freed (moved p i) ds
  copied_freed lt = go (slice_get ls i) refl
    where
      none_there : (us : List VType) (j : ℕ) → slice_get us j ≡ None → j < length us → ⊥
      none_there [] j e lt = omega (arith, lt)
      none_there (u ∷ us) zero e lt = cc
      none_there (u ∷ us) (suc j) e lt = none_there us j e (omega (arith, lt))

      go : (o : Option VType) → slice_get ls i ≡ o → copied p (freed_by o i ls) ≡ freed (moved p i) ds
      go None e = absurd (none_there ls i e lt)
      go (Some t) e = by_type t e
