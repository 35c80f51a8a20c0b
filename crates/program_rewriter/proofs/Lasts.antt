-- The place of a block in the table, and the last place.
use Rattle.std.proofs.Common.{◌≡◌, ℕ, zero, suc, ◌-◌, ◌<◌, ◌≤◌, List, [], ◌∷◌, length, get_or, Some, refl, arith}
use Rattle.std.specs.Prelude.{slice_get}
use Rattle.program_rewriter.specs.Places.{start_of, last_of}

pub start_inside : (ss : List ℕ) (n s : ℕ) → n < length ss → start_of ss n ≡ get_or ss n s
start_inside [] n s h = absurd (omega (arith, h))
start_inside (x ∷ []) zero s h = refl
start_inside (x ∷ []) (suc n) s h = absurd (omega (arith, h))
start_inside (x ∷ y ∷ ss) zero s h = refl
start_inside (x ∷ y ∷ ss) (suc n) s h = start_inside (y ∷ ss) n s (omega (arith, h))

pub start_past : (ss : List ℕ) (n : ℕ) → length ss ≤ n → start_of ss n ≡ last_of ss
start_past [] n h = refl
start_past (x ∷ []) n h = refl
start_past (x ∷ y ∷ ss) zero h = absurd (omega (arith, h))
start_past (x ∷ y ∷ ss) (suc n) h = start_past (y ∷ ss) n (omega (arith, h))

pub last_at : (ss : List ℕ) (i s : ℕ) → i ≡ length ss - 1 → slice_get ss i ≡ Some s → s ≡ last_of ss
last_at [] i s e h = absurd cc
last_at (x ∷ []) zero s e h = cc
last_at (x ∷ []) (suc i) s e h = absurd cc
last_at (x ∷ y ∷ ss) zero s e h = absurd (omega (arith, e))
last_at (x ∷ y ∷ ss) (suc i) s e h = last_at (y ∷ ss) i s (omega (arith, e)) h
