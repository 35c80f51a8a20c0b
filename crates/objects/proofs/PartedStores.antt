-- A long that the context parts is stored behind all other locals of a duplicate: what is there then is at most the copy of what the method has.
use Rattle.std.proofs.Common.{◌≡◌, ◌≢◌, ℕ, zero, suc, ◌+◌, ◌-◌, ◌<◌, ◌≤◌, List, [], ◌∷◌, ◌++◌, length, Option, Some, Bool, true, false, refl, sym, ap, subst, ◌∙◌, arith, ⊎_elim}
use Rattle.std.specs.Prelude.{slice_get, slice_set}
use Rattle.jmodel.specs.declared.typing.VType.{VType}
use Rattle.jmodel.specs.declared.typing.VType.TheVariants.{Long, Second, Top}
use Rattle.objects.specs.semantics.Program.{Program}
use Rattle.objects.specs.typing.TypeOrder.{IsWithin, AreWithin, IsLocals}
use Rattle.objects.specs.typing.Typing.{freed, freed_by}
use Rattle.objects.specs.rewriting.Rewriting.{moved, moved_long}
use Rattle.objects.proofs.Heap.{one_or}
use Rattle.objects.proofs.Agreeing.{set_same}
use Rattle.objects.proofs.Places.{get_back}
use Rattle.objects.proofs.CopiedLocals.{context, copied, copied_plain, copied_set, copied_within, copied_length}
use Rattle.objects.proofs.CopiedLongs.{parted_first, parted_second, moved_low, moved_high}
use Rattle.objects.proofs.CopiedStores.{is_parted, extra, with_copies, set_both, within_from, within_append, long_here, second_here, store_beside, stray_place, long_place}

set_back : (xs ys : List VType) (i : ℕ) (v : VType) → slice_set (xs ++ ys) (length xs + i) v ≡ xs ++ slice_set ys i v
set_back [] ys i v = let e : 0 + i ≡ i = omega arith in rw e refl
set_back (x ∷ xs) ys i v = let e : length (x ∷ xs) + i ≡ suc (length xs + i) = omega arith in rw e (ap (λ l. x ∷ l) (set_back xs ys i v))

-- ---- the places behind all others

abbrev two : Bool → List VType
two b = extra true b

-- what is left of the long that was there
abbrev left : Bool → List VType
left true = Long ∷ Top ∷ []
left false = Top ∷ Top ∷ []

module _ (xs : List VType) (b : Bool) where
  abbrev q0 : ℕ
  q0 = length xs + 0

  abbrev q1 : ℕ
  q1 = length xs + 1

  next : q0 + 1 ≡ q1
  next = omega arith

  frees : (b : Bool) → freed q0 (xs ++ two b) ≡ xs ++ left b
  frees true = ap (λ (o : Option VType). freed_by o q0 (xs ++ two true)) (get_back xs (two true) 0) ∙ ap (λ (i : ℕ). slice_set (xs ++ two true) i Top) next ∙ set_back xs (two true) 1 Top
  frees false = ap (λ (o : Option VType). freed_by o q0 (xs ++ two false)) (get_back xs (two false) 0)

  frees_more : (b : Bool) → freed q1 (xs ++ left b) ≡ xs ++ left b
  frees_more true = ap (λ (o : Option VType). freed_by o q1 (xs ++ left true)) (get_back xs (left true) 1)
  frees_more false = ap (λ (o : Option VType). freed_by o q1 (xs ++ left false)) (get_back xs (left false) 1)

  sets : (b : Bool) → slice_set (slice_set (xs ++ left b) q0 Long) q1 Second ≡ xs ++ Long ∷ Second ∷ []
  sets true = ap (λ (l : List VType). slice_set l q1 Second) (set_back xs (left true) 0 Long) ∙ set_back xs (Long ∷ Top ∷ []) 1 Second
  sets false = ap (λ (l : List VType). slice_set l q1 Second) (set_back xs (left false) 0 Long) ∙ set_back xs (Long ∷ Top ∷ []) 1 Second

  pub stored_behind : slice_set (slice_set (freed q1 (freed q0 (xs ++ two b))) q0 Long) q1 Second ≡ xs ++ Long ∷ Second ∷ []
  stored_behind = ap (λ (l : List VType). slice_set (slice_set (freed q1 l) q0 Long) q1 Second) (frees b) ∙ ap (λ (l : List VType). slice_set (slice_set l q0 Long) q1 Second) (frees_more b) ∙ sets b

module _ (Q : Program) (con : IsWithin Q context context) where
  -- ---- what was before is at most what may be after, but for the places of the long

  unset : (ls ms : List VType) (i : ℕ) (u : VType) → AreWithin Q (slice_set ls i u) ms → AreWithin Q ls (slice_set ms i Top)
  unset [] [] i u w = tt
  unset [] (y ∷ ms) i u w = absurd w
  unset (x ∷ ls) [] zero u w = absurd w
  unset (x ∷ ls) [] (suc i) u w = absurd w
  unset (x ∷ ls) (y ∷ ms) zero u w = (refl, w.1)
  unset (x ∷ ls) (y ∷ ms) (suc i) u w = (w.0, unset ls ms i u w.1)

  above_top : (u : VType) → IsWithin Q Top u → u ≡ Top
  above_top Top w = refl
  above_top u w = cc

  under_top : (t u : VType) → u ≡ Top → IsWithin Q t u
  under_top t u e = subst (λ (u : VType). IsWithin Q t u) (sym e) refl

  untop : (ls ms : List VType) (i : ℕ) → AreWithin Q (slice_set ls i Top) ms → AreWithin Q ls ms
  untop [] ms i w = w
  untop (x ∷ ls) [] zero w = absurd w
  untop (x ∷ ls) [] (suc i) w = absurd w
  untop (x ∷ ls) (y ∷ ms) zero w = (under_top x y (above_top y w.0), w.1)
  untop (x ∷ ls) (y ∷ ms) (suc i) w = (w.0, untop ls ms i w.1)

  unfreed : (ls ms : List VType) (i : ℕ) → AreWithin Q (freed i ls) ms → AreWithin Q ls ms
  unfreed ls ms i = by (slice_get ls i)
    where
      by : (o : Option VType) → AreWithin Q (freed_by o i ls) ms → AreWithin Q ls ms
      by (Some Second) w = untop ls ms (i - 1) w
      by (Some Long) w = untop ls ms (i + 1) w
      by o w = w

  long_or_top : (u : VType) → IsWithin Q Long u → (A : Type 0) → (u ≡ Long → A) → (u ≡ Top → A) → A
  long_or_top Long w A f g = f refl
  long_or_top Top w A f g = g refl
  long_or_top u w A f g = cc

  second_or_top : (u : VType) → IsWithin Q Second u → (A : Type 0) → (u ≡ Second → A) → (u ≡ Top → A) → A
  second_or_top Second w A f g = f refl
  second_or_top Top w A f g = g refl
  second_or_top u w A f g = cc

  both_below : (b : Bool) → AreWithin Q (Long ∷ Second ∷ []) (extra true b)
  both_below true = (refl, (refl, tt))
  both_below false = (refl, (refl, tt))

  module _ (i : ℕ) (ls : List VType) (room : suc i ≤ length ls) (locals : IsLocals ls) (lt : suc i < length ls) where
    abbrev p : ℕ
    p = suc i

    abbrev fs : List VType
    fs = freed (suc i) (freed i ls)

    abbrev hs : List VType
    hs = set_both fs i

    module _ (ms : List VType) (w : AreWithin Q hs ms) where
      -- nothing of the long is among the copies
      first_gone : slice_get (copied p ms) i ≡ Some Top
      first_gone =
          let x = within_from Q con hs ms w i Long (long_here Q con true p ls room locals i lt) in
          let low : moved p i ≡ i = moved_low p i (omega arith) in
          long_or_top x.0 x.2 (slice_get (copied p ms) i ≡ Some Top)
          (λ e. parted_first i ms (x.1 ∙ ap (λ (t : VType). Some t) e))
          (λ e. ap (slice_get (copied p ms)) (sym low) ∙ copied_plain p ms i Top (x.1 ∙ ap (λ (t : VType). Some t) e) tt)

      second_gone : slice_get (copied p ms) (suc p) ≡ Some Top
      second_gone =
          let x = within_from Q con hs ms w p Second (second_here Q con true p ls room locals i lt) in
          let high : moved p p ≡ suc p = moved_high p p (omega arith) in
          second_or_top x.0 x.2 (slice_get (copied p ms) (suc p) ≡ Some Top)
          (λ e. parted_second p ms (x.1 ∙ ap (λ (t : VType). Some t) e))
          (λ e. ap (slice_get (copied p ms)) (sym high) ∙ copied_plain p ms p Top (x.1 ∙ ap (λ (t : VType). Some t) e) tt)

      abbrev us : List VType
      us = slice_set (slice_set ms p Top) i Top

      copies_same : copied p us ≡ copied p ms
      copies_same =
          let low : moved p i ≡ i = moved_low p i (omega arith) in
          let high : moved p p ≡ suc p = moved_high p p (omega arith) in
          let once : copied p (slice_set ms p Top) ≡ copied p ms = copied_set p ms p Top tt ∙ ap (λ (x : ℕ). slice_set (copied p ms) x Top) high ∙ set_same (copied p ms) (suc p) Top second_gone in
          copied_set p (slice_set ms p Top) i Top tt ∙ ap (λ (x : ℕ). slice_set (copied p (slice_set ms p Top)) x Top) low ∙ ap (λ (l : List VType). slice_set l i Top) once ∙ set_same (copied p ms) i Top first_gone

      before_within : AreWithin Q ls us
      before_within = unfreed ls us i (unfreed (freed i ls) us (suc i) (unset fs (slice_set ms p Top) i Long (unset (slice_set fs i Long) ms (suc i) Second w)))

      pub store_behind : (q : ℕ) → q ≡ length (copied p ls) → AreWithin Q (slice_set (slice_set (freed (q + 1) (freed q (with_copies true p ls))) q Long) (q + 1) Second) (with_copies true p ms)
      store_behind q e =
          let cs = copied p ls in
          let z0 : q ≡ length cs + 0 = omega (arith, e) in
          let z1 : q + 1 ≡ length cs + 1 = omega (arith, e) in
          let is : slice_set (slice_set (freed (q + 1) (freed q (with_copies true p ls))) q Long) (q + 1) Second ≡ cs ++ Long ∷ Second ∷ [] =
          ap (λ (x : ℕ). slice_set (slice_set (freed (q + 1) (freed x (with_copies true p ls))) x Long) (q + 1) Second) z0
          ∙ ap (λ (x : ℕ). slice_set (slice_set (freed x (freed (length cs + 0) (with_copies true p ls))) (length cs + 0) Long) x Second) z1
          ∙ stored_behind cs (is_parted p ls) in
          let copies : AreWithin Q cs (copied p ms) = subst (AreWithin Q cs) copies_same (copied_within Q con p ls us before_within) in
          subst (λ (l : List VType). AreWithin Q l (with_copies true p ms)) (sym is) (within_append Q con cs (copied p ms) _ _ copies (both_below (is_parted p ms)))

  -- a long that is stored, wherever it lies
  pub copies_store_long : (s : Bool) (p n : ℕ) (ls : List VType) → length ls ≡ n → p ≤ n → IsLocals ls → (i : ℕ) → i + 1 < n → (suc i ≡ p → s ≡ true) → (ms : List VType)
      → AreWithin Q (slice_set (slice_set (freed (i + 1) (freed i ls)) i Long) (i + 1) Second) ms
      → AreWithin Q (slice_set (slice_set (freed (moved_long p n i + 1) (freed (moved_long p n i) (with_copies s p ls))) (moved_long p n i) Long) (moved_long p n i + 1) Second) (with_copies s p ms)
  copies_store_long s p n ls size room locals i lt stray ms w =
      let z : i + 1 ≡ suc i = omega arith in
      let given : AreWithin Q (set_both (freed (suc i) (freed i ls)) i) ms = subst (λ (x : ℕ). AreWithin Q (slice_set (slice_set (freed x (freed i ls)) i Long) x Second) ms) z w in
      let lt1 : suc i < length ls = omega (arith, lt, size) in
      ⊎_elim
      (λ (e : suc i ≡ p). behind lt1 e given)
      (λ (ne : suc i ≢ p).
      let here = long_place p n i ne in
      let q = moved p i in
      let y : suc q ≡ q + 1 = omega arith in
      let stored : AreWithin Q (slice_set (slice_set (freed (suc q) (freed q (with_copies s p ls))) q Long) (suc q) Second) (with_copies s p ms) = store_beside Q con s p ls (omega (arith, size, room)) locals i lt1 ne ms given in
      subst (λ (x : ℕ). AreWithin Q (slice_set (slice_set (freed (x + 1) (freed x (with_copies s p ls))) x Long) (x + 1) Second) (with_copies s p ms)) (sym here)
      (subst (λ (x : ℕ). AreWithin Q (slice_set (slice_set (freed x (freed q (with_copies s p ls))) q Long) x Second) (with_copies s p ms)) y stored))
      (one_or (suc i) p)
    where
      behind : suc i < length ls → suc i ≡ p → AreWithin Q (set_both (freed (suc i) (freed i ls)) i) ms
          → AreWithin Q (slice_set (slice_set (freed (moved_long p n i + 1) (freed (moved_long p n i) (with_copies s p ls))) (moved_long p n i) Long) (moved_long p n i + 1) Second) (with_copies s p ms)
      behind lt1 e given =
          let is = stray e in
          let here = stray_place p n i e in
          let many = copied_length (suc i) ls (omega (arith, lt1)) in
          let all : AreWithin Q (slice_set (slice_set (freed (moved_long p n i + 1) (freed (moved_long p n i) (with_copies true (suc i) ls))) (moved_long p n i) Long) (moved_long p n i + 1) Second) (with_copies true (suc i) ms) =
          store_behind i ls (omega (arith, lt1)) locals lt1 ms given (moved_long p n i) (omega (arith, here, many, size)) in
          subst (λ (b : Bool). AreWithin Q (slice_set (slice_set (freed (moved_long p n i + 1) (freed (moved_long p n i) (with_copies b p ls))) (moved_long p n i) Long) (moved_long p n i + 1) Second) (with_copies b p ms)) (sym is)
          (subst (λ (r : ℕ). AreWithin Q (slice_set (slice_set (freed (moved_long p n i + 1) (freed (moved_long p n i) (with_copies true r ls))) (moved_long p n i) Long) (moved_long p n i + 1) Second) (with_copies true r ms)) e all)
