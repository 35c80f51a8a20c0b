-- Locals of a method's frame, and those of its duplicate's, where they have types: values of one place lie where the context makes room for
-- them, and a long whose second place would be the context's behind all others.
use Rattle.std.proofs.Common.{◌≡◌, ◌≢◌, ℕ, zero, suc, ◌+◌, ◌-◌, ◌<◌, ◌≤◌, List, [], ◌∷◌, ◌++◌, map, length, Option, Some, Bool, true, false, refl, sym, ap, subst, ◌∙◌, arith, ◌⊎◌, inl, inr, ⊎_elim, length-append}
use Rattle.std.specs.Prelude.{slice_get, slice_set, nat_lt, nat_eq, replicate, if◌then◌else◌, ◌||◌}
use Rattle.std.specs.List.{list_any}
use Rattle.std.proofs.lemmas.Bool.{cases_lt}
use Rattle.std.proofs.lemmas.Bool.Decides.{nat_tests}
use Rattle.std.proofs.lemmas.List.{length-set}
use Rattle.std.proofs.lemmas.Option.{slice_get_within}
use Rattle.jmodel.specs.declared.typing.VType.{VType}
use Rattle.jmodel.specs.declared.typing.VType.TheVariants.{Int, Long, Second, Null, Ref, Uninit, UninitThis, Top}
use Rattle.objects.specs.declared.op.Slot.{Slot}
use Rattle.objects.specs.declared.op.Slot.TheVariants.{Context, Empty}
use Rattle.objects.specs.declared.op.Op.{Op}
use Rattle.objects.specs.semantics.Program.{Method, Program}
use Rattle.objects.specs.typing.Typing.{is_within, AreWithin, freed, freed_by, become, is_uninit}
use Rattle.objects.specs.rewriting.Rewriting.{moved, moved_long, is_stray, more_locals}
use Rattle.objects.proofs.Fields.{some_at}
use Rattle.objects.proofs.Heap.{one_or}
use Rattle.objects.proofs.Moved.{get_set_same, get_set_other}
use Rattle.objects.proofs.Places.{get_front, get_back}

-- ---- where a local lies

abbrev IsOneView : ℕ → ℕ → Type 0
IsOneView p i = ((i < p) × (moved p i ≡ i)) ⊎ ((p ≤ i) × (moved p i ≡ i + 1))

one_view : (p i : ℕ) → IsOneView p i
one_view p i = ⊎_elim (λ (lt : i < p). inl (lt, grind (arith, nat_tests))) (λ (le : p ≤ i). inr (le, grind (arith, nat_tests))) (cases_lt i p)

abbrev IsLongView : ℕ → ℕ → ℕ → Type 0
IsLongView p n i = ((i + 1 ≡ p) × (moved_long p n i ≡ n + 1)) ⊎ (((i + 1 < p) × (moved_long p n i ≡ i)) ⊎ ((p ≤ i) × (moved_long p n i ≡ i + 1)))

long_view : (p n i : ℕ) → IsLongView p n i
long_view p n i = ⊎_elim
    (λ (e : i + 1 ≡ p). let t : nat_eq (i + 1) p ≡ true = grind (arith, nat_tests) in inl (e, rw t refl))
    (λ (ne : i + 1 ≢ p).
    let t : nat_eq (i + 1) p ≡ false = grind (arith, nat_tests) in
    let same : moved_long p n i ≡ moved p i = rw t refl in
    ⊎_elim (λ (v : (i < p) × (moved p i ≡ i)). inr (inl (let lt = v.0 in ⊎_elim (λ (a : i + 1 < p). a) (λ (b : p ≤ i + 1). absurd (ne (omega (arith, lt, b)))) (cases_lt (i + 1) p), same ∙ v.1))) (λ (v : (p ≤ i) × (moved p i ≡ i + 1)). inr (inr (v.0, same ∙ v.1))) (one_view p i))
    (one_or (i + 1) p)

by_one : (p i : ℕ) (A : Type 0) → (i < p → moved p i ≡ i → A) → (p ≤ i → moved p i ≡ i + 1 → A) → A
by_one p i A f g = ⊎_elim (λ (v : (i < p) × (moved p i ≡ i)). f v.0 v.1) (λ (v : (p ≤ i) × (moved p i ≡ i + 1)). g v.0 v.1) (one_view p i)

by_long : (p n i : ℕ) (A : Type 0) → (i + 1 ≡ p → moved_long p n i ≡ n + 1 → A) → (i + 1 < p → moved_long p n i ≡ i → A) → (p ≤ i → moved_long p n i ≡ i + 1 → A) → A
by_long p n i A f g h = ⊎_elim (λ (v : (i + 1 ≡ p) × (moved_long p n i ≡ n + 1)). f v.0 v.1)
    (λ (w : ((i + 1 < p) × (moved_long p n i ≡ i)) ⊎ ((p ≤ i) × (moved_long p n i ≡ i + 1))). ⊎_elim (λ (v : (i + 1 < p) × (moved_long p n i ≡ i)). g v.0 v.1) (λ (v : (p ≤ i) × (moved_long p n i ≡ i + 1)). h v.0 v.1) w)
    (long_view p n i)

one_apart : (p i j : ℕ) → moved p i ≡ moved p j → i ≡ j
one_apart p i j d = by_one p i (i ≡ j) (λ a e. by_one p j (i ≡ j) (λ b f. omega (arith, a, e, b, f, d)) (λ b f. omega (arith, a, e, b, f, d))) (λ a e. by_one p j (i ≡ j) (λ b f. omega (arith, a, e, b, f, d)) (λ b f. omega (arith, a, e, b, f, d)))

one_of_context : (p i : ℕ) → p ≢ moved p i
one_of_context p i d = by_one p i ⊥ (λ a e. omega (arith, a, e, d)) (λ a e. omega (arith, a, e, d))

module _ (p n : ℕ) (room : p ≤ n) where
  first_of_context : (i : ℕ) → p ≢ moved_long p n i
  first_of_context i d = by_long p n i ⊥ (λ a e. omega (arith, a, e, d, room)) (λ a e. omega (arith, a, e, d)) (λ a e. omega (arith, a, e, d))

  second_of_context : (i : ℕ) → p ≢ moved_long p n i + 1
  second_of_context i d = by_long p n i ⊥ (λ a e. omega (arith, a, e, d, room)) (λ a e. omega (arith, a, e, d)) (λ a e. omega (arith, a, e, d))

  -- a long i and a place j
  first_apart : (i j : ℕ) → j < n → moved_long p n i ≡ moved p j → i ≡ j
  first_apart i j lt d = by_long p n i (i ≡ j)
      (λ a e. by_one p j (i ≡ j) (λ b f. omega (arith, a, e, b, f, d, lt)) (λ b f. omega (arith, a, e, b, f, d, lt)))
      (λ a e. by_one p j (i ≡ j) (λ b f. omega (arith, a, e, b, f, d, lt)) (λ b f. omega (arith, a, e, b, f, d, lt)))
      (λ a e. by_one p j (i ≡ j) (λ b f. omega (arith, a, e, b, f, d, lt)) (λ b f. omega (arith, a, e, b, f, d, lt)))

  second_apart : (i j : ℕ) → j < n → moved_long p n i + 1 ≡ moved p j → i + 1 ≡ j
  second_apart i j lt d = by_long p n i (i + 1 ≡ j)
      (λ a e. by_one p j (i + 1 ≡ j) (λ b f. omega (arith, a, e, b, f, d, lt)) (λ b f. omega (arith, a, e, b, f, d, lt)))
      (λ a e. by_one p j (i + 1 ≡ j) (λ b f. omega (arith, a, e, b, f, d, lt)) (λ b f. omega (arith, a, e, b, f, d, lt)))
      (λ a e. by_one p j (i + 1 ≡ j) (λ b f. omega (arith, a, e, b, f, d, lt)) (λ b f. omega (arith, a, e, b, f, d, lt)))

  -- two longs
  firsts_apart : (i j : ℕ) → i < n → j < n → moved_long p n i ≡ moved_long p n j → i ≡ j
  firsts_apart i j lt lu d = by_long p n i (i ≡ j)
      (λ a e. by_long p n j (i ≡ j) (λ b f. omega (arith, a, e, b, f, d, lt, lu)) (λ b f. omega (arith, a, e, b, f, d, lt, lu)) (λ b f. omega (arith, a, e, b, f, d, lt, lu)))
      (λ a e. by_long p n j (i ≡ j) (λ b f. omega (arith, a, e, b, f, d, lt, lu)) (λ b f. omega (arith, a, e, b, f, d, lt, lu)) (λ b f. omega (arith, a, e, b, f, d, lt, lu)))
      (λ a e. by_long p n j (i ≡ j) (λ b f. omega (arith, a, e, b, f, d, lt, lu)) (λ b f. omega (arith, a, e, b, f, d, lt, lu)) (λ b f. omega (arith, a, e, b, f, d, lt, lu)))

  across_apart : (i j : ℕ) → i + 1 < n → j + 1 < n → moved_long p n i + 1 ≡ moved_long p n j → i + 1 ≡ j
  across_apart i j lt lu d = by_long p n i (i + 1 ≡ j)
      (λ a e. by_long p n j (i + 1 ≡ j) (λ b f. omega (arith, a, e, b, f, d, lt, lu)) (λ b f. omega (arith, a, e, b, f, d, lt, lu)) (λ b f. omega (arith, a, e, b, f, d, lt, lu)))
      (λ a e. by_long p n j (i + 1 ≡ j) (λ b f. omega (arith, a, e, b, f, d, lt, lu)) (λ b f. omega (arith, a, e, b, f, d, lt, lu)) (λ b f. omega (arith, a, e, b, f, d, lt, lu)))
      (λ a e. by_long p n j (i + 1 ≡ j) (λ b f. omega (arith, a, e, b, f, d, lt, lu)) (λ b f. omega (arith, a, e, b, f, d, lt, lu)) (λ b f. omega (arith, a, e, b, f, d, lt, lu)))

one_below : (p n i : ℕ) → i < n → moved p i < n + 1
one_below p n i lt = by_one p i (moved p i < n + 1) (λ a e. omega (arith, a, e, lt)) (λ a e. omega (arith, a, e, lt))

-- ---- types of places

-- a type of one place
abbrev pub IsOneKind : VType → Type 0
IsOneKind Int = Unit {0}
IsOneKind Null = Unit {0}
IsOneKind (Ref n) = Unit {0}
IsOneKind (Uninit p) = Unit {0}
IsOneKind UninitThis = Unit {0}
IsOneKind t = ⊥

abbrev IsKnownType : VType → Type 0
IsKnownType Top = ⊥
IsKnownType t = Unit {0}

top_at : (ts : List VType) (i j : ℕ) (t : VType) → slice_get (slice_set ts i Top) j ≡ Some t → IsKnownType t → slice_get ts j ≡ Some t
top_at [] i j t e k = e
top_at (u ∷ ts) zero zero t e k = let s : Top ≡ t = cc in absurd (subst IsKnownType (sym s) k)
top_at (u ∷ ts) zero (suc j) t e k = e
top_at (u ∷ ts) (suc i) zero t e k = e
top_at (u ∷ ts) (suc i) (suc j) t e k = top_at ts i j t e k

freed_by_at : (o : Option VType) (i : ℕ) (ts : List VType) (j : ℕ) (t : VType) → slice_get (freed_by o i ts) j ≡ Some t → IsKnownType t → slice_get ts j ≡ Some t
freed_by_at (Some Second) i ts j t e k = top_at ts (i - 1) j t e k
freed_by_at (Some Long) i ts j t e k = top_at ts (i + 1) j t e k
freed_by_at o i ts j t e k = e

freed_at : (i : ℕ) (ts : List VType) (j : ℕ) (t : VType) → slice_get (freed i ts) j ≡ Some t → IsKnownType t → slice_get ts j ≡ Some t
freed_at i ts = freed_by_at (slice_get ts i) i ts

one_known : (t : VType) → IsOneKind t → IsKnownType t
one_known Int k = tt
one_known Null k = tt
one_known (Ref n) k = tt
one_known (Uninit p) k = tt
one_known UninitThis k = tt
one_known t k = absurd k

freed_by_length : (o : Option VType) (i : ℕ) (ts : List VType) → length (freed_by o i ts) ≡ length ts
freed_by_length (Some Second) i ts = length-set ts (i - 1) Top
freed_by_length (Some Long) i ts = length-set ts (i + 1) Top
freed_by_length o i ts = refl

freed_length : (i : ℕ) (ts : List VType) → length (freed i ts) ≡ length ts
freed_length i ts = freed_by_length (slice_get ts i) i ts

not_one : (t u : VType) → IsOneKind t → Some t ≡ Some u → IsOneKind u
not_one t u k e = let s : t ≡ u = cc in subst IsOneKind s k

-- ---- the two frames' locals

pub record Agree (k : Method) (ts : List VType) (l l' : List Slot) : Type 0 where
  pub context : slice_get l' k.places ≡ Some Context
  pub typed : length ts ≡ k.locals
  pub size : length l ≡ k.locals
  pub more : k.locals + more_locals (list_any (is_stray k.places) k.ops) ≤ length l'
  pub one : (j : ℕ) (t : VType) → slice_get ts j ≡ Some t → IsOneKind t → slice_get l' (moved k.places j) ≡ slice_get l j
  pub first : (j : ℕ) → slice_get ts j ≡ Some Long → slice_get ts (j + 1) ≡ Some Second → slice_get l' (moved_long k.places k.locals j) ≡ slice_get l j
  pub second : (j : ℕ) → slice_get ts j ≡ Some Long → slice_get ts (j + 1) ≡ Some Second → slice_get l' (moved_long k.places k.locals j + 1) ≡ slice_get l (j + 1)

-- ---- wider types

module _ (P : Program) where
  within_at : (ts us : List VType) → AreWithin P ts us → (j : ℕ) (u : VType) → slice_get us j ≡ Some u → (t : VType) × (slice_get ts j ≡ Some t) × (is_within P t u ≡ true)
  within_at [] [] w j u e = cc
  within_at (t ∷ ts) (v ∷ us) w zero u e = let s : v ≡ u = cc in (t, refl, subst (λ (v : VType). is_within P t v ≡ true) s w.0)
  within_at (t ∷ ts) (v ∷ us) w (suc j) u e = within_at ts us w.1 j u e
  within_at [] (v ∷ us) w j u e = absurd w
  within_at (t ∷ ts) [] w j u e = absurd w

  within_length : (ts us : List VType) → AreWithin P ts us → length us ≡ length ts
  within_length [] [] w = refl
  within_length (t ∷ ts) (u ∷ us) w = ap suc (within_length ts us w.1)
  within_length [] (u ∷ us) w = absurd w
  within_length (t ∷ ts) [] w = absurd w

  one_within : (t u : VType) → is_within P t u ≡ true → IsOneKind u → IsOneKind t
  one_within Int u w k = tt
  one_within Null u w k = tt
  one_within (Ref n) u w k = tt
  one_within (Uninit p) u w k = tt
  one_within UninitThis u w k = tt
  one_within t Int w k = cc
  one_within t Null w k = cc
  one_within t (Ref n) w k = cc
  one_within t (Uninit p) w k = cc
  one_within t UninitThis w k = cc
  one_within t u w k = absurd k

  long_within : (t : VType) → is_within P t Long ≡ true → t ≡ Long
  long_within Long w = refl
  long_within t w = cc

  second_within : (t : VType) → is_within P t Second ≡ true → t ≡ Second
  second_within Second w = refl
  second_within t w = cc

  pub agree_within : (k : Method) (ts us : List VType) (l l' : List Slot) → AreWithin P ts us → Agree k ts l l' → Agree k us l l'
  agree_within k ts us l l' w a = record {
    context = a.context;
    typed = within_length ts us w ∙ a.typed;
    size = a.size;
    more = a.more;
    one = λ j u e o. let t = within_at ts us w j u e in a.one j t.0 t.1 (one_within t.0 u t.2 o);
    first = λ j e f. a.first j (long_there j e) (second_there (j + 1) f);
    second = λ j e f. a.second j (long_there j e) (second_there (j + 1) f);
  }
    where
      long_there : (j : ℕ) → slice_get us j ≡ Some Long → slice_get ts j ≡ Some Long
      long_there j e = let t = within_at ts us w j Long e in t.1 ∙ ap Some (long_within t.0 t.2)

      second_there : (j : ℕ) → slice_get us j ≡ Some Second → slice_get ts j ≡ Some Second
      second_there j e = let t = within_at ts us w j Second e in t.1 ∙ ap Some (second_within t.0 t.2)

-- ---- stores

module _ (k : Method) (room : k.places ≤ k.locals) (ts : List VType) (l l' : List Slot) (a : Agree k ts l l') where
  abbrev p : ℕ
  p = k.places

  abbrev n : ℕ
  n = k.locals

  more_one : n + 1 ≤ length l'
  more_one = let m = a.more in go (list_any (is_stray p) k.ops) m
    where
      go : (b : Bool) → n + more_locals b ≤ length l' → n + 1 ≤ length l'
      go true h = omega (arith, h)
      go false h = h

  inside : (j : ℕ) (t : VType) → slice_get ts j ≡ Some t → j < n
  inside j t e = let h = slice_get_within ts j t e in let s = a.typed in omega (arith, h, s)

  -- there is room for what is stored
  pub one_room : (i : ℕ) → i < n → (nat_lt i (length l) ≡ true) × (nat_lt (moved p i) (length l') ≡ true)
  one_room i lt = let s = a.size in let b = one_below p n i lt in let m = more_one in (grind (arith, nat_tests), grind (arith, nat_tests))

  module _ (i : ℕ) (lt : i < n) (t : VType) (kind : IsOneKind t) (v : Slot) where
    abbrev after : List VType
    after = slice_set (freed i ts) i t

    here_one : slice_get after i ≡ Some t
    here_one = let f = freed_length i ts in let s = a.typed in get_set_same (freed i ts) i t (omega (arith, f, s, lt))

    there_one : (j : ℕ) (u : VType) → j ≢ i → slice_get after j ≡ Some u → IsKnownType u → slice_get ts j ≡ Some u
    there_one j u ne e known = freed_at i ts j u (sym (get_set_other (freed i ts) i j t ne) ∙ e) known

    not_here : (j : ℕ) (u : VType) → slice_get after j ≡ Some u → (IsOneKind u → ⊥) → j ≢ i
    not_here j u e never d = never (not_one t u kind (sym here_one ∙ ap (slice_get after) (sym d) ∙ e))

    pub agree_store : Agree k after (slice_set l i v) (slice_set l' (moved p i) v)
    agree_store = record {
      context = get_set_other l' (moved p i) p v (one_of_context p i) ∙ a.context;
      typed = length-set (freed i ts) i t ∙ freed_length i ts ∙ a.typed;
      size = length-set l i v ∙ a.size;
      more = let m = a.more in let s = length-set l' (moved p i) v in omega (arith, m, s);
      one = λ j u e o. ⊎_elim
          (λ (d : j ≡ i).
          let b = one_below p n i lt in let m = more_one in let s = a.size in
          ap (λ (x : ℕ). slice_get (slice_set l' (moved p i) v) (moved p x)) d ∙ get_set_same l' (moved p i) v (omega (arith, b, m)) ∙ sym (get_set_same l i v (omega (arith, s, lt))) ∙ ap (slice_get (slice_set l i v)) (sym d))
          (λ (ne : j ≢ i). get_set_other l' (moved p i) (moved p j) v (λ d. ne (one_apart p j i d)) ∙ a.one j u (there_one j u ne e (one_known u o)) o ∙ sym (get_set_other l i j v ne))
          (one_or j i);
      first = λ j e f.
          let ne = not_here j Long e (λ x. x) in
          let nf = not_here (j + 1) Second f (λ x. x) in
          get_set_other l' (moved p i) (moved_long p n j) v (λ d. ne (first_apart p n room j i lt d)) ∙ a.first j (there_one j Long ne e tt) (there_one (j + 1) Second nf f tt) ∙ sym (get_set_other l i j v ne);
      second = λ j e f.
          let ne = not_here j Long e (λ x. x) in
          let nf = not_here (j + 1) Second f (λ x. x) in
          get_set_other l' (moved p i) (moved_long p n j + 1) v (λ d. nf (second_apart p n room j i lt d)) ∙ a.second j (there_one j Long ne e tt) (there_one (j + 1) Second nf f tt) ∙ sym (get_set_other l i (j + 1) v nf);
    }

  module _ (i : ℕ) (lt : i + 1 < n) (x y : Slot) (enough : moved_long p n i + 1 < length l') where
    abbrev freed_both : List VType
    freed_both = freed (i + 1) (freed i ts)

    abbrev with_first : List VType
    with_first = slice_set freed_both i Long

    abbrev with_both : List VType
    with_both = slice_set with_first (i + 1) Second

    abbrev q : ℕ
    q = moved_long p n i

    both_length : length freed_both ≡ n
    both_length = freed_length (i + 1) (freed i ts) ∙ freed_length i ts ∙ a.typed

    here_second : slice_get with_both (i + 1) ≡ Some Second
    here_second = let f = length-set freed_both i Long in let g = both_length in get_set_same with_first (i + 1) Second (omega (arith, f, g, lt))

    here_first : slice_get with_both i ≡ Some Long
    here_first = let g = both_length in let ne : i ≢ i + 1 = λ d. omega (arith, d) in get_set_other with_first (i + 1) i Second ne ∙ get_set_same freed_both i Long (omega (arith, g, lt))

    there_long : (j : ℕ) (u : VType) → j ≢ i → j ≢ i + 1 → slice_get with_both j ≡ Some u → IsKnownType u → slice_get ts j ≡ Some u
    there_long j u ne nf e known =
        freed_at i ts j u (freed_at (i + 1) (freed i ts) j u (sym (get_set_other freed_both i j Long ne) ∙ sym (get_set_other with_first (i + 1) j Second nf) ∙ e) known) known

    off_first : (j : ℕ) (u : VType) → slice_get with_both j ≡ Some u → u ≢ Long → j ≢ i
    off_first j u e never d = never (let h : Some u ≡ Some Long = sym e ∙ ap (slice_get with_both) d ∙ here_first in cc)

    off_second : (j : ℕ) (u : VType) → slice_get with_both j ≡ Some u → u ≢ Second → j ≢ i + 1
    off_second j u e never d = never (let h : Some u ≡ Some Second = sym e ∙ ap (slice_get with_both) d ∙ here_second in cc)

    abbrev up : List Slot
    up = slice_set (slice_set l i x) (i + 1) y

    abbrev down : List Slot
    down = slice_set (slice_set l' q x) (q + 1) y

    same_up : (j : ℕ) → j ≢ i → j ≢ i + 1 → slice_get up j ≡ slice_get l j
    same_up j ne nf = get_set_other (slice_set l i x) (i + 1) j y nf ∙ get_set_other l i j x ne

    same_down : (j : ℕ) → j ≢ q → j ≢ q + 1 → slice_get down j ≡ slice_get l' j
    same_down j ne nf = get_set_other (slice_set l' q x) (q + 1) j y nf ∙ get_set_other l' q j x ne

    first_up : slice_get up i ≡ Some x
    first_up = let s = a.size in let ne : i ≢ i + 1 = λ d. omega (arith, d) in get_set_other (slice_set l i x) (i + 1) i y ne ∙ get_set_same l i x (omega (arith, s, lt))

    second_up : slice_get up (i + 1) ≡ Some y
    second_up = let s = a.size in let f = length-set l i x in get_set_same (slice_set l i x) (i + 1) y (omega (arith, s, f, lt))

    first_down : slice_get down q ≡ Some x
    first_down = let ne : q ≢ q + 1 = λ d. omega (arith, d) in get_set_other (slice_set l' q x) (q + 1) q y ne ∙ get_set_same l' q x (omega (arith, enough))

    second_down : slice_get down (q + 1) ≡ Some y
    second_down = let f = length-set l' q x in get_set_same (slice_set l' q x) (q + 1) y (omega (arith, f, enough))

    one_not_long : (u v : VType) → IsOneKind u → (IsOneKind v → ⊥) → u ≢ v
    one_not_long u v o never d = never (subst IsOneKind d o)

    below_first : (j : ℕ) → j + 1 < n → j < n
    below_first j h = omega (arith, h)

    pub agree_store_long : Agree k with_both up down
    agree_store_long = record {
      context = same_down p (first_of_context p n room i) (second_of_context p n room i) ∙ a.context;
      typed = length-set with_first (i + 1) Second ∙ length-set freed_both i Long ∙ both_length;
      size = length-set (slice_set l i x) (i + 1) y ∙ length-set l i x ∙ a.size;
      more = let m = a.more in let s = length-set (slice_set l' q x) (q + 1) y in let r = length-set l' q x in omega (arith, m, s, r);
      one = λ j u e o.
          let ne = off_first j u e (one_not_long u Long o (λ x. x)) in
          let nf = off_second j u e (one_not_long u Second o (λ x. x)) in
          let at = there_long j u ne nf e (one_known u o) in
          let lu = inside j u at in
          same_down (moved p j) (λ d. ne (sym (first_apart p n room i j lu (sym d)))) (λ d. nf (sym (second_apart p n room i j lu (sym d)))) ∙ a.one j u at o ∙ sym (same_up j ne nf);
      first = λ j e f. ⊎_elim
          (λ (d : j ≡ i). ap (λ (z : ℕ). slice_get down (moved_long p n z)) d ∙ first_down ∙ sym first_up ∙ ap (slice_get up) (sym d))
          (λ (ne : j ≢ i). let o = others j e f ne in same_down (moved_long p n j) (λ d. ne (firsts_apart p n room j i o.4 (omega (arith, lt)) d)) (λ d. o.0 (sym (across_apart p n room i j lt o.5 (sym d)))) ∙ a.first j o.2 o.3 ∙ sym (same_up j ne o.0))
          (one_or j i);
      second = λ j e f. ⊎_elim
          (λ (d : j ≡ i). ap (λ (z : ℕ). slice_get down (moved_long p n z + 1)) d ∙ second_down ∙ sym second_up ∙ ap (λ (z : ℕ). slice_get up (z + 1)) (sym d))
          (λ (ne : j ≢ i). let o = others j e f ne in
          same_down (moved_long p n j + 1) (λ d. o.1 (across_apart p n room j i o.5 lt d)) (λ d. ne (firsts_apart p n room j i o.4 (omega (arith, lt)) (omega (arith, d)))) ∙ a.second j o.2 o.3 ∙ sym (same_up (j + 1) o.1 (λ d. ne (omega (arith, d)))))
          (one_or j i);
    }
      where
        others : (j : ℕ) → slice_get with_both j ≡ Some Long → slice_get with_both (j + 1) ≡ Some Second → j ≢ i → (j ≢ i + 1) × (j + 1 ≢ i) × (slice_get ts j ≡ Some Long) × (slice_get ts (j + 1) ≡ Some Second) × (j < n) × (j + 1 < n)
        others j e f ne =
            let a0 : Long ≢ Second = λ d. cc in
            let b0 : Second ≢ Long = λ d. cc in
            let nf = off_second j Long e a0 in
            let mf = off_first (j + 1) Second f b0 in
            let a1 = there_long j Long ne nf e tt in
            let a2 = there_long (j + 1) Second mf (λ d. ne (omega (arith, d))) f tt in
            (nf, mf, a1, a2, inside j Long a1, inside (j + 1) Second a2)

  -- there is room for a long
  pub long_room : (o : Op) (pc : ℕ) → slice_get k.ops pc ≡ Some o → (i : ℕ) → i + 1 < n → (i + 1 ≡ p → is_stray p o ≡ true) → (nat_lt (i + 1) (length l) ≡ true) × (moved_long p n i + 1 < length l')
  long_room o pc e i lt stray = (
    let s = a.size in grind (arith, nat_tests),
    by_long p n i (moved_long p n i + 1 < length l')
        (λ b f. let m = subst (λ (b : Bool). n + more_locals b ≤ length l') (any_at k.ops pc o e (stray b)) a.more in omega (arith, f, m))
        (λ b f. let m = more_one in omega (arith, b, f, m, lt))
        (λ b f. let m = more_one in omega (arith, b, f, m, lt)),
  )
    where
      any_at : (ops : List Op) (pc : ℕ) (o : Op) → slice_get ops pc ≡ Some o → is_stray p o ≡ true → list_any (is_stray p) ops ≡ true
      any_at [] pc o e h = cc
      any_at (z ∷ ops) zero o e h = let s : z ≡ o = cc in let t : is_stray p z ≡ true = ap (is_stray p) s ∙ h in rw t refl
      any_at (z ∷ ops) (suc pc) o e h = let t = any_at ops pc o e h in go (is_stray p z) (list_any (is_stray p) ops) t
        where
          go : (b c : Bool) → c ≡ true → (b || c) ≡ true
          go true c h = refl
          go false c h = h

-- ---- a method's first frame

top_or_below : (takes : List VType) (m j : ℕ) (t : VType) → slice_get (takes ++ replicate m Top) j ≡ Some t → IsKnownType t → slice_get takes j ≡ Some t
top_or_below [] zero j t e known = cc
top_or_below [] (suc m) zero t e known = let s : Top ≡ t = cc in absurd (subst IsKnownType (sym s) known)
top_or_below [] (suc m) (suc j) t e known = let h = top_or_below [] m j t e known in cc
top_or_below (u ∷ takes) m zero t e known = e
top_or_below (u ∷ takes) m (suc j) t e known = top_or_below takes m j t e known

pub length_copies : {A : Type 0} (m : ℕ) (x : A) → length (replicate m x) ≡ m
length_copies zero x = refl
length_copies (suc m) x = ap suc (length_copies m x)

pub agree_start : (k : Method) (ts : List VType) → length ts ≡ k.places → k.places ≤ k.locals → (args : List Slot) → length args ≡ k.places
    → Agree k (ts ++ replicate (k.locals - k.places) Top) (args ++ replicate (k.locals - k.places) Empty)
    ((args ++ Context ∷ []) ++ replicate (k.locals + more_locals (list_any (is_stray k.places) k.ops) - (k.places + 1)) Empty)
agree_start k ts many room args len =
    let p = k.places in
    let m = more_locals (list_any (is_stray k.places) k.ops) in
    let some : 1 ≤ m = by (list_any (is_stray k.places) k.ops) in
    let rest = replicate (k.locals + m - (p + 1)) Empty in
    let same : (j i : ℕ) → i ≡ j → j < p → slice_get ((args ++ Context ∷ []) ++ rest) i ≡ slice_get (args ++ replicate (k.locals - p) Empty) j = λ j i e lt.
    let v = some_at args j (omega (arith, lt, len)) in
    ap (slice_get ((args ++ Context ∷ []) ++ rest)) e ∙ get_front (args ++ Context ∷ []) rest j v.0 (get_front args (Context ∷ []) j v.0 v.1) ∙ sym (get_front args (replicate (k.locals - p) Empty) j v.0 v.1) in
    let below : (j : ℕ) (t : VType) → slice_get (ts ++ replicate (k.locals - p) Top) j ≡ Some t → IsKnownType t → j < p = λ j t e known.
    let lt = slice_get_within ts j t (top_or_below ts (k.locals - p) j t e known) in omega (arith, lt, many) in
    record {
      context =
          let z : p ≡ length args + 0 = omega (arith, len) in
          get_front (args ++ Context ∷ []) rest p Context (ap (slice_get (args ++ Context ∷ [])) z ∙ get_back args (Context ∷ []) 0);
      typed = let b = length_copies (k.locals - p) Top in let c = length-append ts (replicate (k.locals - p) Top) in omega (arith, b, c, many, room);
      size = let b = length_copies (k.locals - p) Empty in let c = length-append args (replicate (k.locals - p) Empty) in omega (arith, b, c, len, room);
      more =
          let b = length_copies (k.locals + m - (p + 1)) Empty in
          let c = length-append (args ++ Context ∷ []) rest in
          let d = length-append args (Context ∷ []) in
          omega (arith, b, c, d, len, room, some);
      one = λ j t e o. let lt = below j t e (one_known t o) in let low : moved p j ≡ j = by_one p j (moved p j ≡ j) (λ a f. f) (λ a f. omega (arith, a, lt)) in same j (moved p j) low lt;
      first = λ j e f.
          let lt = below j Long e tt in
          let lu = below (j + 1) Second f tt in
          let low : moved_long p k.locals j ≡ j = by_long p k.locals j (moved_long p k.locals j ≡ j) (λ a g. omega (arith, a, lu)) (λ a g. g) (λ a g. omega (arith, a, lt)) in same j _ low lt;
      second = λ j e f.
          let lt = below j Long e tt in
          let lu = below (j + 1) Second f tt in
          let low : moved_long p k.locals j ≡ j = by_long p k.locals j (moved_long p k.locals j ≡ j) (λ a g. omega (arith, a, lu)) (λ a g. g) (λ a g. omega (arith, a, lt)) in
          let low1 : moved_long p k.locals j + 1 ≡ j + 1 = omega (arith, low) in same (j + 1) _ low1 lu;
    }
  where
    by : (b : Bool) → 1 ≤ more_locals b
    by true = omega arith
    by false = omega arith

pub set_same : (ts : List VType) (i : ℕ) (t : VType) → slice_get ts i ≡ Some t → slice_set ts i t ≡ ts
set_same [] i t e = refl
set_same (u ∷ ts) zero t e = let s : t ≡ u = cc in ap (λ (t : VType). t ∷ ts) s
set_same (u ∷ ts) (suc i) t e = ap (λ (ts : List VType). u ∷ ts) (set_same ts i t e)

-- an int in the place of another
pub agree_set : (k : Method) → k.places ≤ k.locals → (ts : List VType) (l l' : List Slot) → Agree k ts l l' → (i : ℕ) → i < k.locals → slice_get ts i ≡ Some Int → (v : Slot) → Agree k ts (slice_set l i v) (slice_set l' (moved k.places i) v)
agree_set k room ts l l' a i lt is v =
    let f : freed i ts ≡ ts = ap (λ (o : Option VType). freed_by o i ts) is in
    let e : slice_set (freed i ts) i Int ≡ ts = ap (λ (us : List VType). slice_set us i Int) f ∙ set_same ts i Int is in
    subst (λ (us : List VType). Agree k us (slice_set l i v) (slice_set l' (moved k.places i) v)) e (agree_store k room ts l l' a i lt Int tt v)

-- ---- objects that are built

become_at : (u t : VType) (ts : List VType) (j : ℕ) (v : VType) → slice_get (map (become u t) ts) j ≡ Some v → (x : VType) × (slice_get ts j ≡ Some x) × (become u t x ≡ v)
become_at u t [] j v e = cc
become_at u t (x ∷ ts) zero v e = let s : become u t x ≡ v = cc in (x, refl, s)
become_at u t (x ∷ ts) (suc j) v e = become_at u t ts j v e

become_one : (u t x : VType) → IsOneKind (become u t x) → IsOneKind x
become_one u t Int o = tt
become_one u t Null o = tt
become_one u t (Ref n) o = tt
become_one u t (Uninit p) o = tt
become_one u t UninitThis o = tt
become_one (Uninit p) t Long o = o
become_one (Uninit p) t Second o = o
become_one (Uninit p) t Top o = o
become_one u t Long o = o
become_one u t Second o = o
become_one u t Top o = o

become_other : (u t x y : VType) → become u t x ≡ y → t ≢ y → x ≡ y
become_other u t x y e ne = by (is_uninit u x) e
  where
    by : (b : Bool) → (if b then t else x) ≡ y → x ≡ y
    by true e = absurd (ne e)
    by false e = e

map_length : {A B : Type 0} (f : A → B) (xs : List A) → length (map f xs) ≡ length xs
map_length f [] = refl
map_length f (x ∷ xs) = ap suc (map_length f xs)

-- the same locals, where a type of one place stands for another
pub agree_become : (k : Method) (u t : VType) → t ≢ Long → t ≢ Second → (ts : List VType) (l l' : List Slot) → Agree k ts l l' → Agree k (map (become u t) ts) l l'
agree_become k u t nl ns ts l l' a = record {
  context = a.context;
  typed = map_length (become u t) ts ∙ a.typed;
  size = a.size;
  more = a.more;
  one = λ j v e o. let x = become_at u t ts j v e in a.one j x.0 x.1 (become_one u t x.0 (subst IsOneKind (sym x.2) o));
  first = λ j e f. a.first j (there j Long nl e) (there (j + 1) Second ns f);
  second = λ j e f. a.second j (there j Long nl e) (there (j + 1) Second ns f);
}
  where
    there : (j : ℕ) (v : VType) → t ≢ v → slice_get (map (become u t) ts) j ≡ Some v → slice_get ts j ≡ Some v
    there j v ne e = let x = become_at u t ts j v e in x.1 ∙ ap Some (become_other u t x.0 v x.2 ne)
