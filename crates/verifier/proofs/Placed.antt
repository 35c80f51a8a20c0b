-- Places of a stack, from the top.
use Rattle.std.proofs.Common.{◌≡◌, ℕ, zero, suc, ◌+◌, ◌<◌, ◌≤◌, List, [], ◌∷◌, drop, get_or, length, Some, None, true, false, refl, ap, ◌∙◌, arith}
use Rattle.std.specs.Prelude.{slice_get}
use Rattle.jmodel.specs.declared.typing.VType.{VType}
use Rattle.objects.specs.semantics.Program.{Program}
use Rattle.objects.specs.typing.TypeOrder.{is_within}
use Rattle.verifier.specs.Order.{are_within}
use Rattle.verifier.specs.Rules.{are_taken}
use Rattle.verifier.proofs.Lists.{past}

-- what lies under so many places, by the place below them
pub place_is : {X : Type 0} → (s : List X) (i : ℕ) (t : X) → Some t ≡ slice_get s i → drop i s ≡ t ∷ drop (i + 1) s
place_is [] zero t e = cc
place_is [] (suc i) t e = cc
place_is (x ∷ s) zero t e = cc
place_is (x ∷ s) (suc i) t e = let n : suc i + 1 ≡ suc (i + 1) = omega arith in rw n (place_is s i t e)

pub no_place : {X : Type 0} → (s : List X) (i : ℕ) → None ≡ slice_get s i → drop i s ≡ []
no_place [] zero e = refl
no_place [] (suc i) e = refl
no_place (x ∷ s) zero e = cc
no_place (x ∷ s) (suc i) e = no_place s i e

item_is : {X : Type 0} → (ws : List X) (i : ℕ) (w : X) → i < length ws → w ≡ get_or ws i w → drop i ws ≡ w ∷ drop (i + 1) ws
item_is [] i w h e = absurd (omega (arith, h))
item_is (x ∷ ws) zero w h e = cc
item_is (x ∷ ws) (suc i) w h e = let n : suc i + 1 ≡ suc (i + 1) = omega arith in rw n (item_is ws i w (omega (arith, h)) e)

module _ (P : Program) where
  -- one more place is taken, or isn't
  module _ (i : ℕ) (ws s : List VType) (w : VType) (less : i < length ws) (want : w ≡ get_or ws i w) where
    pub taken_step : (t : VType) → Some t ≡ slice_get s i → is_within P t w ≡ true → are_taken P (drop i ws) (drop i s) ≡ are_taken P (drop (i + 1) ws) (drop (i + 1) s)
    taken_step t f g = rw (item_is ws i w less want, place_is s i t f, g) refl

    pub not_taken : (t : VType) → Some t ≡ slice_get s i → is_within P t w ≡ false → are_taken P (drop i ws) (drop i s) ≡ false
    not_taken t f g = rw (item_is ws i w less want, place_is s i t f, g) refl

    pub none_taken : None ≡ slice_get s i → are_taken P (drop i ws) (drop i s) ≡ false
    none_taken f = rw (item_is ws i w less want, no_place s i f) refl

  -- one more place is within its other
  pub within_step : (i : ℕ) (s ws : List VType) (t w : VType) → Some t ≡ slice_get s i → Some w ≡ slice_get ws i → is_within P t w ≡ true → are_within P (drop i s) (drop i ws) ≡ are_within P (drop (i + 1) s) (drop (i + 1) ws)
  within_step i s ws t w e f g = rw (place_is s i t e, place_is ws i w f, g) refl

  pub not_within : (i : ℕ) (s ws : List VType) (t w : VType) → Some t ≡ slice_get s i → Some w ≡ slice_get ws i → is_within P t w ≡ false → are_within P (drop i s) (drop i ws) ≡ false
  not_within i s ws t w e f g = rw (place_is s i t e, place_is ws i w f, g) refl

  -- a place that isn't there
  pub no_wide : (i : ℕ) (s ws : List VType) → i < length s → None ≡ slice_get ws i → are_within P (drop i s) (drop i ws) ≡ false
  no_wide i s ws h e = ap (are_within P (drop i s)) (no_place ws i e) ∙ some_over (drop i s) (some_left s i h)
    where
      some_left : (s : List VType) (i : ℕ) → i < length s → 0 < length (drop i s)
      some_left [] i h = absurd (omega (arith, h))
      some_left (t ∷ s) zero h = omega arith
      some_left (t ∷ s) (suc i) h = some_left s i (omega (arith, h))

      some_over : (s : List VType) → 0 < length s → are_within P s [] ≡ false
      some_over [] h = absurd (omega (arith, h))
      some_over (t ∷ s) h = refl

  pub no_narrow : (i : ℕ) (s ws : List VType) → i < length s → None ≡ slice_get s i → are_within P (drop i s) (drop i ws) ≡ false
  no_narrow zero [] ws h e = absurd (omega (arith, h))
  no_narrow (suc i) [] ws h e = absurd (omega (arith, h))
  no_narrow zero (t ∷ s) ws h e = cc
  no_narrow (suc i) (t ∷ s) [] h e = no_narrow_left i s (omega (arith, h)) e
    where
      no_narrow_left : (i : ℕ) (s : List VType) → i < length s → None ≡ slice_get s i → are_within P (drop i s) [] ≡ false
      no_narrow_left i [] h e = absurd (omega (arith, h))
      no_narrow_left zero (t ∷ s) h e = cc
      no_narrow_left (suc i) (t ∷ s) h e = no_narrow_left i s (omega (arith, h)) e
  no_narrow (suc i) (t ∷ s) (u ∷ ws) h e = no_narrow i s ws (omega (arith, h)) e

  pub past_all : (i : ℕ) (s ws : List VType) → length s ≡ length ws → length s ≤ i → are_within P (drop i s) (drop i ws) ≡ true
  past_all i [] [] e h = rw (past {A = VType} [] i h) refl
  past_all i [] (u ∷ ws) e h = cc
  past_all i (t ∷ s) [] e h = cc
  past_all zero (t ∷ s) (u ∷ ws) e h = absurd (omega (arith, h))
  past_all (suc i) (t ∷ s) (u ∷ ws) e h = past_all i s ws (omega (arith, e)) (omega (arith, h))
