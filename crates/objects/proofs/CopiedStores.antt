-- The types of all locals of a duplicate: those of the method, with the context among them, and behind them the long that the context parts, where one is
-- loaded or stored. What stores leave there is at most the copy of what they leave in the method.
use Rattle.std.proofs.Common.{◌≡◌, ◌≢◌, ℕ, zero, suc, ◌+◌, ◌<◌, ◌≤◌, List, [], ◌∷◌, ◌++◌, length, Option, Some, Bool, true, false, refl, sym, ap, subst, ◌∙◌, arith, ⊎_elim, length-append}
use Rattle.std.specs.Prelude.{slice_get, slice_set, nat_eq}
use Rattle.std.proofs.lemmas.Bool.{cases_lt}
use Rattle.std.proofs.lemmas.Bool.Decides.{nat_tests}
use Rattle.std.proofs.lemmas.List.{length-set}
use Rattle.jmodel.specs.declared.typing.VType.{VType}
use Rattle.jmodel.specs.declared.typing.VType.TheVariants.{Int, Long, Second, Null, Ref, Uninit, UninitThis, Top}
use Rattle.objects.specs.semantics.Program.{Program}
use Rattle.objects.specs.typing.TypeOrder.{IsWithin, AreWithin, IsLocals, IsLocalsAfter}
use Rattle.objects.specs.typing.Typing.{freed}
use Rattle.objects.specs.rewriting.Rewriting.{moved, moved_long, more_locals}
use Rattle.objects.proofs.Heap.{one_or}
use Rattle.objects.proofs.Moved.{get_set_same, get_set_other}
use Rattle.objects.proofs.Places.{get_front, get_back}
use Rattle.objects.proofs.CopiedLocals.{context, before, after, copied, IsPlainKind, copied_plain, copied_set, copied_locals, copied_within, copied_context, copied_length}
use Rattle.objects.proofs.FreedPlaces.{set_front, freed_front, freed_size, freed_known, whole_next}
use Rattle.objects.proofs.CopiedLongs.{IsWhole, whole, low_long, low_second, high_long, high_second, moved_low, moved_high, copied_freed}

abbrev pub is_long : Option VType → Bool
is_long (Some Long) = true
is_long t = false

-- whether the context's place is between the two of a long
abbrev pub is_parted : ℕ → List VType → Bool
is_parted zero ls = false
is_parted (suc p) ls = is_long (slice_get ls p)

-- the two places behind all others, where there are some
abbrev pub extra : Bool → Bool → List VType
extra false b = []
extra true true = Long ∷ Second ∷ []
extra true false = Top ∷ Top ∷ []

abbrev pub with_copies : Bool → ℕ → List VType → List VType
with_copies stray p ls = copied p ls ++ extra stray (is_parted p ls)

-- ---- their length, and that they are types of locals

extra_length : (s b : Bool) → length (extra s b) + 1 ≡ more_locals s
extra_length false b = refl
extra_length true true = refl
extra_length true false = refl

pub copies_length : (s : Bool) (p : ℕ) (ls : List VType) → p ≤ length ls → length (with_copies s p ls) ≡ length ls + more_locals s
copies_length s p ls le = omega (arith, length-append (copied p ls) (extra s (is_parted p ls)), copied_length p ls le, extra_length s (is_parted p ls))

locals_append : (b : Bool) (xs ys : List VType) → IsLocalsAfter b xs → IsLocals ys → IsLocalsAfter b (xs ++ ys)
locals_append false [] ys h g = g
locals_append true [] ys h g = absurd h
locals_append false (Int ∷ xs) ys h g = locals_append false xs ys h g
locals_append false (Null ∷ xs) ys h g = locals_append false xs ys h g
locals_append false (Ref n ∷ xs) ys h g = locals_append false xs ys h g
locals_append false (Uninit q ∷ xs) ys h g = locals_append false xs ys h g
locals_append false (UninitThis ∷ xs) ys h g = locals_append false xs ys h g
locals_append false (Top ∷ xs) ys h g = locals_append false xs ys h g
locals_append false (Long ∷ xs) ys h g = locals_append true xs ys h g
locals_append true (Second ∷ xs) ys h g = locals_append false xs ys h g
locals_append b (t ∷ xs) ys h g = absurd h

extra_locals : (s b : Bool) → IsLocals (extra s b)
extra_locals false b = tt
extra_locals true true = tt
extra_locals true false = tt

pub copies_locals : (s : Bool) (p : ℕ) (ls : List VType) → IsLocals ls → IsLocals (with_copies s p ls)
copies_locals s p ls h = locals_append false (copied p ls) (extra s (is_parted p ls)) (copied_locals p ls h) (extra_locals s (is_parted p ls))

-- ---- where values lie

pub copies_plain : (s : Bool) (p : ℕ) (ls : List VType) (i : ℕ) (t : VType) → slice_get ls i ≡ Some t → IsPlainKind t → slice_get (with_copies s p ls) (moved p i) ≡ Some t
copies_plain s p ls i t e k = get_front (copied p ls) (extra s (is_parted p ls)) (moved p i) t (copied_plain p ls i t e k)

pub copies_context : (s : Bool) (p : ℕ) (ls : List VType) → p ≤ length ls → slice_get (with_copies s p ls) p ≡ Some context
copies_context s p ls le = get_front (copied p ls) (extra s (is_parted p ls)) p context (copied_context p ls le)

same_test : (i p : ℕ) → suc i ≡ p → nat_eq (i + 1) p ≡ true
same_test i p e = grind (arith, nat_tests)

other_test : (i p : ℕ) → suc i ≢ p → nat_eq (i + 1) p ≡ false
other_test i p e = grind (arith, nat_tests)

pub stray_place : (p n i : ℕ) → suc i ≡ p → moved_long p n i ≡ n + 1
stray_place p n i e = let t = same_test i p e in rw t refl

pub long_place : (p n i : ℕ) → suc i ≢ p → moved_long p n i ≡ moved p i
long_place p n i e = let t = other_test i p e in rw t refl

module _ (s : Bool) (p n : ℕ) (ls : List VType) (size : length ls ≡ n) (room : p ≤ n) (i : ℕ) (stray : suc i ≡ p → s ≡ true) (long : slice_get ls i ≡ Some Long) (second : slice_get ls (suc i) ≡ Some Second) where
  abbrev ds : List VType
  ds = copied p ls

  abbrev ex : List VType
  ex = extra s (is_parted p ls)

  parted : suc i ≡ p → ex ≡ Long ∷ Second ∷ []
  parted e =
      let is : is_parted p ls ≡ true = subst (λ (q : ℕ). is_parted q ls ≡ true) e (ap is_long long) in
      let st = stray e in
      ap (λ (b : Bool). extra b (is_parted p ls)) st ∙ ap (extra true) is

  size_of : length ds ≡ n + 1
  size_of = let a = copied_length p ls (omega (arith, size, room)) in omega (arith, a, size)

  abbrev q : ℕ
  q = moved_long p n i

  pub copies_long : (slice_get (with_copies s p ls) q ≡ Some Long) × (slice_get (with_copies s p ls) (q + 1) ≡ Some Second)
  copies_long = ⊎_elim
      (λ (e : suc i ≡ p).
      let z = stray_place p n i e in
      let a = size_of in
      let z0 : q ≡ length ds + 0 = omega (arith, z, a) in
      let z1 : q + 1 ≡ length ds + 1 = omega (arith, z, a) in
      (ap (slice_get (ds ++ ex)) z0 ∙ get_back ds ex 0 ∙ ap (λ (l : List VType). slice_get l 0) (parted e), ap (slice_get (ds ++ ex)) z1 ∙ get_back ds ex 1 ∙ ap (λ (l : List VType). slice_get l 1) (parted e)))
      (λ (ne : suc i ≢ p).
      let z = long_place p n i ne in ⊎_elim
      (λ (lt : i < p).
      let lt1 : suc i < p = omega (arith, lt, ne) in
      let z0 : q ≡ i = z ∙ moved_low p i lt in
      let z1 : q + 1 ≡ suc i = omega (arith, z0) in
      (ap (slice_get (ds ++ ex)) z0 ∙ get_front ds ex i Long (low_long p ls i lt1 long), ap (slice_get (ds ++ ex)) z1 ∙ get_front ds ex (suc i) Second (low_second p ls (suc i) lt1 second)))
      (λ (le : p ≤ i).
      let z0 : q ≡ suc i = z ∙ moved_high p i le in
      let z1 : q + 1 ≡ suc (suc i) = omega (arith, z0) in
      (ap (slice_get (ds ++ ex)) z0 ∙ get_front ds ex (suc i) Long (high_long p ls i le long), ap (slice_get (ds ++ ex)) z1 ∙ get_front ds ex (suc (suc i)) Second (high_second p ls (suc i) (omega (arith, le)) second)))
      (cases_lt i p))
      (one_or (suc i) p)

-- ---- a long that is stored beside the context, or before it

abbrev pub set_both : List VType → ℕ → List VType
set_both ls i = slice_set (slice_set ls i Long) (suc i) Second

both_low : (p : ℕ) (ls : List VType) (i : ℕ) → suc i < p → copied p (set_both ls i) ≡ set_both (copied p ls) i
both_low zero ls i lt = absurd (omega (arith, lt))
both_low (suc p) [] i lt = refl
both_low (suc zero) (x ∷ ls) i lt = absurd (omega (arith, lt))
both_low (suc (suc p)) (x ∷ []) zero lt = refl
both_low (suc (suc p)) (x ∷ y ∷ ls) zero lt = refl
both_low (suc (suc p)) (x ∷ ls) (suc i) lt = ap (λ (l : List VType). before x (suc p) ∷ l) (both_low (suc p) ls i (omega (arith, lt)))

after_both : (ls : List VType) (i : ℕ) → after (set_both ls i) ≡ set_both (after ls) i
after_both [] i = refl
after_both (Second ∷ []) zero = refl
after_both (x ∷ []) zero = refl
after_both (Second ∷ y ∷ ls) zero = refl
after_both (x ∷ y ∷ ls) zero = refl
after_both (Second ∷ ls) (suc i) = refl
after_both (x ∷ ls) (suc i) = refl

both_high : (p : ℕ) (ls : List VType) (i : ℕ) → p ≤ i → copied p (set_both ls i) ≡ set_both (copied p ls) (suc i)
both_high zero ls i le = ap (λ (l : List VType). context ∷ l) (after_both ls i)
both_high (suc p) [] i le = refl
both_high (suc p) (x ∷ ls) zero le = absurd (omega (arith, le))
both_high (suc p) (x ∷ ls) (suc i) le = ap (λ (l : List VType). before x p ∷ l) (both_high p ls i (omega (arith, le)))

copied_both : (p : ℕ) (ls : List VType) (i : ℕ) → suc i ≢ p → copied p (set_both ls i) ≡ set_both (copied p ls) (moved p i)
copied_both p ls i ne = ⊎_elim
    (λ (lt : i < p). both_low p ls i (omega (arith, lt, ne)) ∙ ap (set_both (copied p ls)) (sym (moved_low p i lt)))
    (λ (le : p ≤ i). both_high p ls i le ∙ ap (set_both (copied p ls)) (sym (moved_high p i le)))
    (cases_lt i p)

-- ---- wider types

module _ (Q : Program) (con : IsWithin Q context context) where
  pub within_from : (ls ms : List VType) → AreWithin Q ls ms → (j : ℕ) (t : VType) → slice_get ls j ≡ Some t → (u : VType) × (slice_get ms j ≡ Some u) × IsWithin Q t u
  within_from [] [] w j t e = cc
  within_from (x ∷ ls) (y ∷ ms) w zero t e = let s : x ≡ t = cc in (y, refl, subst (λ (x : VType). IsWithin Q x y) s w.0)
  within_from (x ∷ ls) (y ∷ ms) w (suc j) t e = within_from ls ms w.1 j t e
  within_from [] (y ∷ ms) w j t e = absurd w
  within_from (x ∷ ls) [] w j t e = absurd w

  within_to : (ls ms : List VType) → AreWithin Q ls ms → (j : ℕ) (u : VType) → slice_get ms j ≡ Some u → (t : VType) × (slice_get ls j ≡ Some t) × IsWithin Q t u
  within_to [] [] w j u e = cc
  within_to (x ∷ ls) (y ∷ ms) w zero u e = let s : y ≡ u = cc in (x, refl, subst (λ (y : VType). IsWithin Q x y) s w.0)
  within_to (x ∷ ls) (y ∷ ms) w (suc j) u e = within_to ls ms w.1 j u e
  within_to [] (y ∷ ms) w j u e = absurd w
  within_to (x ∷ ls) [] w j u e = absurd w

  pub within_append : (xs ys us vs : List VType) → AreWithin Q xs ys → AreWithin Q us vs → AreWithin Q (xs ++ us) (ys ++ vs)
  within_append [] [] us vs w v = v
  within_append (x ∷ xs) (y ∷ ys) us vs w v = (w.0, within_append xs ys us vs w.1 v)
  within_append [] (y ∷ ys) us vs w v = absurd w
  within_append (x ∷ xs) [] us vs w v = absurd w

  below_long : (t : VType) → IsWithin Q t Long → t ≡ Long
  below_long Long w = refl
  below_long t w = cc

  extra_within : (s b c : Bool) → (c ≡ true → b ≡ true) → AreWithin Q (extra s b) (extra s c)
  extra_within false b c f = tt
  extra_within true true true f = (refl, (refl, tt))
  extra_within true true false f = (refl, (refl, tt))
  extra_within true false false f = (refl, (refl, tt))
  extra_within true false true f = absurd (let e = f refl in cc)

  is_long_then : (o : Option VType) → is_long o ≡ true → o ≡ Some Long
  is_long_then (Some Long) e = refl
  is_long_then o e = cc

  parted_within : (p : ℕ) (ls ms : List VType) → AreWithin Q ls ms → is_parted p ms ≡ true → is_parted p ls ≡ true
  parted_within zero ls ms w e = e
  parted_within (suc p) ls ms w e = let x = within_to ls ms w p Long (is_long_then (slice_get ms p) e) in ap is_long (x.1 ∙ ap (λ (t : VType). Some t) (below_long x.0 x.2))

  pub copies_within : (s : Bool) (p : ℕ) (ls ms : List VType) → AreWithin Q ls ms → AreWithin Q (with_copies s p ls) (with_copies s p ms)
  copies_within s p ls ms w = within_append (copied p ls) (copied p ms) _ _ (copied_within Q con p ls ms w) (extra_within s (is_parted p ls) (is_parted p ms) (parted_within p ls ms w))

  -- what is stored at a place of the copy is at most the copy of what is stored, where no long is parted anew
  over_extra : (s : Bool) (p : ℕ) (ls gs ms : List VType) → (is_parted p gs ≡ true → is_parted p ls ≡ true) → AreWithin Q gs ms → AreWithin Q (copied p gs ++ extra s (is_parted p ls)) (with_copies s p ms)
  over_extra s p ls gs ms f w = within_append (copied p gs) (copied p ms) _ _ (copied_within Q con p gs ms w) (extra_within s (is_parted p ls) (is_parted p ms) (λ e. f (parted_within p gs ms w e)))

  module _ (s : Bool) (p : ℕ) (ls : List VType) (room : p ≤ length ls) (locals : IsLocals ls) where
    abbrev cs : List VType
    cs = copied p ls

    abbrev tail : List VType
    tail = extra s (is_parted p ls)

    size : length cs ≡ length ls + 1
    size = copied_length p ls room

    moved_room : (i : ℕ) → i < length ls → moved p i < length cs
    moved_room i lt = let z = size in ⊎_elim (λ (a : i < p). let e = moved_low p i a in omega (arith, e, z, lt)) (λ (b : p ≤ i). let e = moved_high p i b in omega (arith, e, z, lt)) (cases_lt i p)

    whole_copy : (q : ℕ) → IsWhole cs q
    whole_copy q = whole cs q (copied_locals p ls locals)

    -- ---- a value of one place

    module _ (i : ℕ) (lt : i < length ls) (t : VType) (kind : IsPlainKind t) where
      abbrev j : ℕ
      j = moved p i

      abbrev gs : List VType
      gs = slice_set (freed i ls) i t

      stored_is : slice_set (freed j (with_copies s p ls)) j t ≡ copied p gs ++ tail
      stored_is =
          let there = moved_room i lt in
          let kept = freed_size j cs in
          ap (λ (l : List VType). slice_set l j t) (freed_front cs tail j (whole_copy j) there)
          ∙ set_front (freed j cs) tail j t (omega (arith, there, kept))
          ∙ ap (λ (l : List VType). slice_set l j t ++ tail) (sym (copied_freed p ls i (whole ls i locals) lt))
          ∙ ap (λ (l : List VType). l ++ tail) (sym (copied_set p (freed i ls) i t kind))

      not_long : (u : VType) → IsPlainKind u → u ≢ Long
      not_long u k e = subst IsPlainKind e k

      long_was : (x : ℕ) → slice_get gs x ≡ Some Long → slice_get ls x ≡ Some Long
      long_was x e = ⊎_elim
          (λ (d : x ≡ i). absurd (let here : slice_get gs i ≡ Some t = (let kept = freed_size i ls in get_set_same (freed i ls) i t (omega (arith, lt, kept))) in let z : slice_get gs i ≡ Some Long = ap (slice_get gs) (sym d) ∙ e in not_long t kind (let same : t ≡ Long = cc in same)))
          (λ (ne : x ≢ i). freed_known Long (λ d. cc) ls i x (sym (get_set_other (freed i ls) i x t ne) ∙ e))
          (one_or x i)

      parted_was : (r : ℕ) → is_parted r gs ≡ true → is_parted r ls ≡ true
      parted_was zero e = e
      parted_was (suc r) e = ap is_long (long_was r (is_long_then (slice_get gs r) e))

      pub copies_store : (ms : List VType) → AreWithin Q gs ms → AreWithin Q (slice_set (freed j (with_copies s p ls)) j t) (with_copies s p ms)
      copies_store ms w = subst (λ (l : List VType). AreWithin Q l (with_copies s p ms)) (sym stored_is) (over_extra s p ls gs ms (parted_was p) w)

    -- ---- a long

    module _ (i : ℕ) (lt : suc i < length ls) where
      abbrev fs : List VType
      fs = freed (suc i) (freed i ls)

      abbrev hs : List VType
      hs = set_both fs i

      sizes : length fs ≡ length ls
      sizes = freed_size (suc i) (freed i ls) ∙ freed_size i ls

      pub long_here : slice_get hs i ≡ Some Long
      long_here = let z = sizes in get_set_other (slice_set fs i Long) (suc i) i Second (λ d. omega (arith, d)) ∙ get_set_same fs i Long (omega (arith, z, lt))

      pub second_here : slice_get hs (suc i) ≡ Some Second
      second_here = let z = sizes in let y = length-set fs i Long in get_set_same (slice_set fs i Long) (suc i) Second (omega (arith, z, y, lt))

      abbrev StoredAt : ℕ → List VType
      StoredAt q = set_both (freed (suc q) (freed q (with_copies s p ls))) q

      module _ (apart : suc i ≢ p) where
        abbrev k : ℕ
        k = moved p i

        next : moved p (suc i) ≡ suc k
        next = ⊎_elim
            (λ (a : i < p). let e = moved_low p i a in let b : suc i < p = omega (arith, a, apart) in let d = moved_low p (suc i) b in omega (arith, e, d))
            (λ (b : p ≤ i). let e = moved_high p i b in let c : p ≤ suc i = omega (arith, b) in let d = moved_high p (suc i) c in omega (arith, e, d))
            (cases_lt i p)

        both_is : StoredAt k ≡ copied p hs ++ tail
        both_is =
            let first : i < length ls = omega (arith, lt) in
            let there = moved_room i first in
            let behind = moved_room (suc i) lt in
            let z = next in
            let beside : suc k < length cs = omega (arith, behind, z) in
            let kept = freed_size k cs in
            let all = freed_size (suc k) (freed k cs) in
            let later : suc k < length (freed k cs) = omega (arith, beside, kept) in
            let rest : freed (suc k) (freed k (with_copies s p ls)) ≡ copied p fs ++ tail =
            ap (freed (suc k)) (freed_front cs tail k (whole_copy k) there)
            ∙ freed_front (freed k cs) tail (suc k) (whole_next cs k (copied_locals p ls locals) beside) later
            ∙ ap (λ (l : List VType). freed (suc k) l ++ tail) (sym (copied_freed p ls i (whole ls i locals) first))
            ∙ ap (λ (q : ℕ). freed q (copied p (freed i ls)) ++ tail) (sym z)
            ∙ ap (λ (l : List VType). l ++ tail) (sym (copied_freed p (freed i ls) (suc i) (whole_next ls i locals lt) (let y = freed_size i ls in omega (arith, y, lt)))) in
            let many : length (copied p fs) ≡ length cs = let y = sizes in let x = copied_length p fs (omega (arith, y, room)) in let v = size in omega (arith, x, y, v) in
            let set = length-set (copied p fs) k Long in
            ap (λ (l : List VType). set_both l k) rest
            ∙ ap (λ (l : List VType). slice_set l (suc k) Second) (set_front (copied p fs) tail k Long (omega (arith, many, there)))
            ∙ set_front (slice_set (copied p fs) k Long) tail (suc k) Second (omega (arith, many, set, beside))
            ∙ ap (λ (l : List VType). l ++ tail) (sym (copied_both p fs i apart))

        first_was : (x : ℕ) → x ≢ i → slice_get hs x ≡ Some Long → slice_get ls x ≡ Some Long
        first_was x ne e = ⊎_elim
            (λ (d : x ≡ suc i). absurd (let z : slice_get hs (suc i) ≡ Some Long = ap (slice_get hs) (sym d) ∙ e in let y = second_here in cc))
            (λ (nf : x ≢ suc i). freed_known Long (λ d. cc) ls i x (freed_known Long (λ d. cc) (freed i ls) (suc i) x (sym (get_set_other fs i x Long ne) ∙ sym (get_set_other (slice_set fs i Long) (suc i) x Second nf) ∙ e)))
            (one_or x (suc i))

        both_parted : (r : ℕ) → suc i ≢ r → is_parted r hs ≡ true → is_parted r ls ≡ true
        both_parted zero ne e = e
        both_parted (suc r) ne e = ap is_long (first_was r (λ d. ne (ap suc (sym d))) (is_long_then (slice_get hs r) e))

        pub store_beside : (ms : List VType) → AreWithin Q hs ms → AreWithin Q (StoredAt k) (with_copies s p ms)
        store_beside ms w = subst (λ (l : List VType). AreWithin Q l (with_copies s p ms)) (sym both_is) (over_extra s p ls hs ms (both_parted p apart) w)
